pub mod TokenText
