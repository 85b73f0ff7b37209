pub mod End
pub mod Sending
pub mod Listed
pub mod Taking
pub mod Shown
pub mod inner
