pub mod Places
pub mod Arguments
pub mod Meant
