pub mod Dispatch
pub mod Answer
pub mod Call
pub mod Checks
pub mod Room
pub mod Emit
pub mod Returned
pub mod Contract
