pub mod LabelOperandsLaws
