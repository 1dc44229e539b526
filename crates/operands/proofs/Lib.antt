pub mod OperandsLaws
