pub mod Instance
pub mod Places
pub mod Run
pub mod inner
