pub mod LineRefused
pub mod LinkedLineLaws
