pub mod Breakpoints
pub mod BreakpointBytes
