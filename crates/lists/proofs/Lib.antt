pub mod Goods
pub mod Held
pub mod Heads
pub mod Measures
pub mod Readers
pub mod Sizes
pub mod Trips
pub mod Writers
