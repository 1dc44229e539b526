pub mod BuildLaws
pub mod KeptLaws
pub mod Straight
