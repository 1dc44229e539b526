pub mod MacroText
