pub mod DigitLaws
pub mod LeadingLaws
pub mod NumberLaws
pub mod NumbersLaws
pub mod QuotedLaws
pub mod StopLaws
pub mod TextLaws
pub mod WordLaws
