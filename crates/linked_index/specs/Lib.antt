pub mod LinkedIndex
