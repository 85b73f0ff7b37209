pub mod Form
pub mod Size
pub mod Instance
pub mod Sheet
pub mod Formed
pub mod inner
