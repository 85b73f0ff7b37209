-- What only private functions promise.
pub mod Few
pub mod Places
