pub mod AsWithout
pub mod BesideLaws
pub mod MakeLaws
pub mod MakeTakes
pub mod NextTakes
pub mod RefusedStays
pub mod SameCall
