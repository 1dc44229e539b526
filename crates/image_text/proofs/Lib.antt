pub mod BuiltLaws
pub mod ImageLaws
pub mod MostLaws
