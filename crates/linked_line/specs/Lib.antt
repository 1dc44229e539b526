pub mod LineWords
pub mod LinkedLine
