pub mod Patches
pub mod Placed
