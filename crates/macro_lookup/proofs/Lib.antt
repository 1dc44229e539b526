pub mod LookupLaws
pub mod RepeatLaws
pub mod TogetherLaws
