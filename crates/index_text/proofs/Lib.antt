pub mod IndexTextLaws
