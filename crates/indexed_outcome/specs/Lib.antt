pub mod Indexed
pub mod Make
pub mod Contract
pub mod Beside
