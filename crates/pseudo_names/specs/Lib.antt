pub mod PseudoNames
