pub mod PseudoWordsLaws
