pub mod Instructions
pub mod Numbers
pub mod Effects
pub mod Step
pub mod Fits
