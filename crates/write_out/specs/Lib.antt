pub mod Body
pub mod Calls
pub mod Entry
