pub mod KnownLaws
pub mod LayoutLaws
pub mod NamesLaws
pub mod WalkLaws
