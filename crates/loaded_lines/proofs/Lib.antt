pub mod CallsLaws
pub mod Forms
pub mod FormsLaws
pub mod FormsReported
pub mod Instance
pub mod LinesLoad
pub mod Loaded
