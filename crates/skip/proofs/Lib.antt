pub mod Skips
pub mod Runs
pub mod Depths
pub mod Spellings
