pub mod ChecksLaws
pub mod NewUsesLaws
pub mod Roomy
pub mod StepsLaws
