pub mod FloatWords
