pub mod BehindLaws
pub mod BytesLaws
pub mod OneMoreLaws
pub mod RecordsLaws
pub mod StoresLaws
pub mod WalkLaws
