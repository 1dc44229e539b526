pub mod PseudoNamesLaws
