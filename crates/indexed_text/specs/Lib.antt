pub mod IndexedText
