pub mod TokenBytes
pub mod Meant
