pub mod LinkedPatching
