pub mod AddingLaws
pub mod MakingLaws
pub mod LabelsLaws
pub mod OrderLaws
