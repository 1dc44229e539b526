pub mod Told
pub mod Index
pub mod Ordered
