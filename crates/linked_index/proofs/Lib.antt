pub mod LinkedIndexLaws
