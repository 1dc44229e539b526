pub mod LabelsLaws
pub mod LookupLaws
pub mod StraightLaws
