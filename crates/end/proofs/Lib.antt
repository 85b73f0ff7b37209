pub mod Ends
pub mod Sendings
pub mod Movings
pub mod Shows
pub mod Sorted
pub mod Replaced
pub mod Judged
pub mod Pictures
pub mod Learnings
pub mod Tolds
pub mod Steps
pub mod Dropped
pub mod Marks
pub mod Others
pub mod Goods
pub mod Waitings
pub mod Closings
pub mod GoodLists
pub mod Standing
mod Packings
mod Searches
