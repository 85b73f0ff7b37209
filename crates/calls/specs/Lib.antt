pub mod Call
pub mod Divert
pub mod Coming
pub mod Original
pub mod Onward
pub mod inner
