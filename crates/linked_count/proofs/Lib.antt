pub mod LinkedCountLaws
