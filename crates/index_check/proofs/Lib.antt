pub mod CheckingLaws
pub mod CountingLaws
pub mod NumbersLaws
pub mod PlacesLaws
pub mod RecordLaws
pub mod StandingLaws
