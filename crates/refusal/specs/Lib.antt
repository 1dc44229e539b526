pub mod Leaves
pub mod Numbers
pub mod Verdicts
pub mod Split
