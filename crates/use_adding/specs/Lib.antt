pub mod Adding
pub mod Making
