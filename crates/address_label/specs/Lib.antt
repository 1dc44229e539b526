pub mod AddressLabels
pub mod Entries
pub mod LabelBytes
