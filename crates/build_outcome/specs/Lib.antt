pub mod Build
pub mod Returned
