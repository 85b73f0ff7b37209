pub mod Invariant
pub mod Serving
pub mod Demand3
pub mod Octets
pub mod Stays
