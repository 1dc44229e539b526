pub mod Pendings
pub mod PendingBytes
