pub mod LineRefused
pub mod LinkedPatchingLaws
