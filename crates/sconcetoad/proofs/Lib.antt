pub mod Saids
pub mod Replies
pub mod OnlyBorder
pub mod OnlyDesk
