pub mod PageTextLaws
