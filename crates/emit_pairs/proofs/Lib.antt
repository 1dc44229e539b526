pub mod PairsLaws
pub mod ValuesLaws
