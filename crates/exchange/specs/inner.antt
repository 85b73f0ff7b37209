-- What only private functions promise.
pub mod Arrived
pub mod Question
