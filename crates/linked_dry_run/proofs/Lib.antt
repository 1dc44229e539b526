pub mod LinkedDryRunLaws
pub mod ReadsBack
