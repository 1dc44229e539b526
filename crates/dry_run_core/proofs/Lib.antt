pub mod FetchLaws
pub mod PlacesLaws
pub mod StepsLaws
