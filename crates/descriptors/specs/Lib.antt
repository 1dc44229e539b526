pub mod Mnemonics
pub mod Descriptors
