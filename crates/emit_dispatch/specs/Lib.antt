pub mod Wants
pub mod LineLoads
pub mod LineAnswers
pub mod Lines
pub mod Contract
