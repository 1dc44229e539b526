pub mod OperandLists
pub mod HeldOperands
