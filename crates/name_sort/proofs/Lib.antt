pub mod BeforeLaws
pub mod ByteLaws
pub mod SortingLaws
