pub mod Comparisons
pub mod Overlap
pub mod Lines
pub mod Premises
pub mod Meaning
pub mod Stops
pub mod LinesAlone
pub mod RoutineLines
