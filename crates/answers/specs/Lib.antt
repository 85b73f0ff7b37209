pub mod Answer
pub mod Reply
