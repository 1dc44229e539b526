pub mod IndexedTextLaws
