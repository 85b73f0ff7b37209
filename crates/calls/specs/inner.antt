pub mod Onward
pub mod Original
