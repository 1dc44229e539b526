pub mod FindLaws
pub mod OrderedLaws
