pub mod LinkedPageLaws
