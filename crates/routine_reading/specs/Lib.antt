pub mod Tidy
pub mod Asked
pub mod Lines
