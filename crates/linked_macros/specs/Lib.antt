pub mod LinkedMacros
