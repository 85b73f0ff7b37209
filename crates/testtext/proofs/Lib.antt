pub mod Hexes
pub mod Lines
pub mod Octets
pub mod Outsides
pub mod Signs
