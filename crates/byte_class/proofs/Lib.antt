pub mod ClassLaws
pub mod LettersLaws
pub mod TableLaws
