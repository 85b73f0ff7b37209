pub mod Table
pub mod Step
pub mod Arrive
pub mod Question
pub mod inner
