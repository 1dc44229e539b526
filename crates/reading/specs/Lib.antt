pub mod Reading
pub mod Rows
pub mod Premises
pub mod OnTarget
pub mod Used
