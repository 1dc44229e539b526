pub mod LinkedBuild
