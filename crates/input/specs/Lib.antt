pub mod Input
pub mod RegisterBytes
