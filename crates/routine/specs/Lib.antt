pub mod PatchValues
pub mod BreakpointValues
pub mod CallValues
pub mod Run
pub mod Chains
