pub mod PseudoWords
