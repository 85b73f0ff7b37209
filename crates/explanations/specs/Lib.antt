pub mod Text
pub mod Elements
pub mod Explained
