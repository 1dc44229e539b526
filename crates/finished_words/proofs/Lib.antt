pub mod AcceptedLaws
pub mod BitsLaws
pub mod Finished
pub mod FinishedLaws
pub mod Instance
pub mod InstanceLaws
pub mod ListedLaws
pub mod WordsLaws
