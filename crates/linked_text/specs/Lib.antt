pub mod LinkedText
