pub mod LinkedLabel
