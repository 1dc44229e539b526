pub mod JobsLaws
