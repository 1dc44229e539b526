pub mod LinkedPage
