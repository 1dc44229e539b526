pub mod LinkedTextLaws
