pub mod Said
pub mod Replied
pub mod Written
pub mod Arrival
pub mod Desk
pub mod Diversion
pub mod Sheets
