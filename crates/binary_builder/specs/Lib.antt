pub mod Contract
pub mod Layouts
pub mod PatchLists
pub mod Steps
