pub mod Labels
pub mod Lookup
pub mod Straight
