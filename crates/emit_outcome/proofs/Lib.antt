pub mod AnswerLaws
pub mod Refused
