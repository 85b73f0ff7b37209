pub mod Profile
pub mod Access
