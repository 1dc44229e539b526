pub mod CallsLaws
pub mod EntryLaws
pub mod FillLaws
pub mod Same
pub mod Turns
