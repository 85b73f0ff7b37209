pub mod Word
pub mod Pen
