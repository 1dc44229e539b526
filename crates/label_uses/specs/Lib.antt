pub mod Uses
pub mod UseBytes
pub mod Says
pub mod ReadUse
pub mod Held
