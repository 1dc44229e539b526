pub mod LinkedMacrosLaws
