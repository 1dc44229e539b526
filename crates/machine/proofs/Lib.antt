pub mod CastsLaws
pub mod EffectsLaws
pub mod FitsLaws
pub mod InstructionsLaws
pub mod LoadingAgrees
pub mod NumbersLaws
pub mod StepLaws
pub mod WordStepsLaws
