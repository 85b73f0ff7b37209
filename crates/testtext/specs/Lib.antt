pub mod Hex
pub mod Line
pub mod Outside
pub mod Signed
pub mod Words
