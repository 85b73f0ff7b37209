pub mod Writers
pub mod InstanceWriters
pub mod WrittenTables
pub mod WrittenSheets
pub mod Tables
pub mod ReadTables
pub mod TableTrips
pub mod PromiseTrips
