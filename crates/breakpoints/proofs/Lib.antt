pub mod BreakpointBytesLaws
pub mod BreakpointsLaws
pub mod Written
pub mod WrittenLaws
