pub mod Pens
pub mod Words
pub mod Hexes
