pub mod CountLaws
pub mod IndexLaws
pub mod Lookup
pub mod PlacesLaws
pub mod RiseLaws
pub mod SearchLaws
