pub mod EmitLaws
pub mod LateLaws
pub mod LineLaws
pub mod ListedLaws
pub mod ListsLaws
