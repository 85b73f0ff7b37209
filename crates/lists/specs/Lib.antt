pub mod Entry
pub mod Entries
pub mod Listed
pub mod inner
