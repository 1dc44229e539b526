pub mod BehindLaws
pub mod RegisterLaws
pub mod TokenBytesLaws
pub mod Written
pub mod WrittenLaws
