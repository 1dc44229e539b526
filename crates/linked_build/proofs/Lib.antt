pub mod LinkedBuildLaws
