pub mod ListsLaws
pub mod PlacesLaws
pub mod RoomLaws
