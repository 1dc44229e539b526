pub mod IntegerWords
