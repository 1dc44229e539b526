pub mod DescriptorsLaws
pub mod MnemonicsLaws
