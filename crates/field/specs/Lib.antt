pub mod Bit
pub mod Field
pub mod Wrap
