pub mod SplitLaws
pub mod VerdictsLaws
