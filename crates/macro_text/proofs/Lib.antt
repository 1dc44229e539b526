pub mod MacroTextLaws
