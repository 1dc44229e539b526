pub mod Fetch
pub mod Run
pub mod DryRun
