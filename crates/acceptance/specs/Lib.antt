pub mod Unlisted
pub mod Changed
pub mod Tested
pub mod Function18
