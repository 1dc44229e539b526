pub mod Class
pub mod Letters
