pub mod Above
pub mod Acts
pub mod Outcome
pub mod Walk
pub mod Written
