pub mod PageText
