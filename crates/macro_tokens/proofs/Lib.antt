pub mod ArgumentsLaws
pub mod MeantLaws
pub mod PartLaws
pub mod PlacesLaws
