pub mod Page
pub mod Outcome
