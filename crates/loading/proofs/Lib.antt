pub mod ContractLaws
pub mod LoadLaws
pub mod Loading
