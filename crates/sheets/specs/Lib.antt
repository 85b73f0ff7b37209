pub mod Sheets
pub mod inner
