pub mod TokensLaws
