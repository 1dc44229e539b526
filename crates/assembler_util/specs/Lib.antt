pub mod LabelOperands
