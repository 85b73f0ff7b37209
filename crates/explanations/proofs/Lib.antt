pub mod Words
pub mod Lines
pub mod Rows
pub mod Sizes
pub mod Longest
pub mod Components
