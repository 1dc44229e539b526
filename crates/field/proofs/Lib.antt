pub mod FieldLaws
pub mod Writing
