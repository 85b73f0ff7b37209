pub mod Number
pub mod Address
pub mod Spelt
