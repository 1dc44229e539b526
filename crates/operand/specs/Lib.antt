pub mod Answers
pub mod Held
