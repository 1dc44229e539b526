pub mod Patching
pub mod Step
pub mod Grown
pub mod Line
pub mod Contract
