pub mod LinkedCount
