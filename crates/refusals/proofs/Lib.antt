pub mod Refusals
pub mod Handlings
