pub mod ChainLaws
pub mod PutLaws
