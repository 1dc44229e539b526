pub mod Determined
pub mod DeterminedLaws
pub mod Length
pub mod LinesLaws
pub mod Longest
pub mod Shown
pub mod Worked
