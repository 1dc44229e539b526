pub mod Held
pub mod LineLaws
pub mod PlaceLaws
