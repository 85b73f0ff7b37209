pub mod Heard
pub mod Request
pub mod Sent
pub mod Invoke
pub mod Spelt
pub mod Sending
