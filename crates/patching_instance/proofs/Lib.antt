pub mod Claimed
pub mod Instance
