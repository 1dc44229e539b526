pub mod LinkedLabelLaws
