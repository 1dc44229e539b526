pub mod Load
pub mod Run
pub mod Contract
