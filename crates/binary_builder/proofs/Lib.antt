pub mod ContractLaws
pub mod OrderLaws
pub mod PlacesLaws
pub mod WritesLaws
