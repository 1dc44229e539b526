pub mod Made
pub mod LineLists
