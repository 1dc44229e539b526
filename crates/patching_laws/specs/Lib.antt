pub mod Script
pub mod Claims
