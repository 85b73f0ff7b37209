pub mod Listing
pub mod Write
