pub mod InputLaws
pub mod RegisterBytesLaws
