pub mod Contract
pub mod Lists
pub mod Given
