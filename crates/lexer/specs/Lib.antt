pub mod Tokens
pub mod Views
