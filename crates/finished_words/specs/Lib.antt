pub mod Listed
pub mod Words
pub mod InstanceTables
