pub mod FitLaws
pub mod OutcomeLaws
pub mod PassLaws
pub mod Places
pub mod ReadingLaws
pub mod ReadsBack
pub mod TokensLaws
pub mod Worked
