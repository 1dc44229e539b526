pub mod NextLaws
pub mod StepLaws
pub mod UndoLaws
