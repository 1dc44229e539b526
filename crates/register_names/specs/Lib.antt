pub mod RegisterNames
pub mod Padded
