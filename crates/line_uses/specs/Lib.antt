pub mod Line
pub mod LineUses
pub mod LineIndex
