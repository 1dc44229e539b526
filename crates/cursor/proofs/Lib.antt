pub mod CursorsLaws
pub mod PositionLaws
pub mod ReadsLaws
