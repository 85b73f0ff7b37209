pub mod Questions
pub mod Tables
pub mod Steps
pub mod Arrivals
pub mod Arrivings
pub mod Nexts
pub mod Registered
pub mod Askings
