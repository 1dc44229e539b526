pub mod Sorting
pub mod Before
