pub mod PatchesLaws
pub mod PlacedLaws
pub mod WordLaws
