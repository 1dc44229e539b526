pub mod TokenTextLaws
