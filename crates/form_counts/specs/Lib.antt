pub mod FormCounts
pub mod Below
