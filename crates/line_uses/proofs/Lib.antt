pub mod AddsLabelLaws
pub mod HasLaws
pub mod KeyLaws
pub mod LineLaws
