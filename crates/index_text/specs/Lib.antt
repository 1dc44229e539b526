pub mod IndexText
