pub mod Pairs
pub mod Values
