pub mod CallLaws
pub mod EmittedLaws
pub mod PartsLaws
pub mod RotateLaws
