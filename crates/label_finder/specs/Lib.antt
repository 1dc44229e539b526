pub mod Ordered
pub mod Find
