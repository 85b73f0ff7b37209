pub mod Selection
pub mod Error
pub mod Judge
pub mod Prefix
