pub mod BelowLaws
pub mod Counting
