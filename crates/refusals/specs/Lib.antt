pub mod Refusal
pub mod Handling
