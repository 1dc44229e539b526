pub mod FindTextLaws
