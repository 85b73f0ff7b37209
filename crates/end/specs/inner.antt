pub mod Listed
pub mod Refused
pub mod Sending
