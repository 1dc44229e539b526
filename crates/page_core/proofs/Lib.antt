pub mod ChecksLaws
pub mod OutcomeLaws
pub mod TextsLaws
