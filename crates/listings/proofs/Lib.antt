pub mod Lines
pub mod Lengths
pub mod Sheets
pub mod Accepted
