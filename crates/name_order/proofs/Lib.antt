pub mod FromLaws
pub mod OrderLaws
