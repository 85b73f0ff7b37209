pub mod Profiles
pub mod Places
pub mod Records
pub mod Diversions
pub mod Rising
pub mod Tidied
pub mod Made
pub mod Firsts
