pub mod NamesLaws
pub mod OwnersLaws
pub mod StraightLaws
