pub mod HeldOperandsLaws
pub mod OperandListsLaws
