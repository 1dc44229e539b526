pub mod Cursors
pub mod Reads
