pub mod Undo
pub mod Steps
