pub mod PaddedLaws
pub mod RegisterNamesLaws
pub mod Worked
