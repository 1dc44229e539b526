-- What is printed for a stored case: what the program that its first byte names prints for the other bytes. Assumes nothing.
use Rattle.std.specs.Prelude.{ℕ, List, [], ◌∷◌, get_or}
use Rattle.jobs.specs.declared.Job.TheVariants.{Manual}
use Rattle.line_text.specs.Line.{line_text}
use Rattle.image_text.specs.Image.{finish_text, finish_text_by}
use Rattle.token_text.specs.TokenText.{read_text_text}
use Rattle.macro_text.specs.MacroText.{expand_text}
use Rattle.dry_run_text.specs.Lines.{dry_run_text}
use Rattle.page_text.specs.PageText.{page_text}
use Rattle.indexed_text.specs.IndexedText.{emit_indexed_text}
use Rattle.index_text.specs.IndexText.{make_index_text}
use Rattle.patching_text.specs.Script.{steps_text}
use Rattle.find_text.specs.FindText.{find_text}

-- what the programs print, in the order of their bytes (docs/PROGRAMS.md)
abbrev pub texts : List (List ℕ → List ℕ)
texts =
    line_text
    ∷ finish_text
    ∷ finish_text_by Manual
    ∷ read_text_text
    ∷ expand_text
    ∷ dry_run_text
    ∷ page_text
    ∷ emit_indexed_text
    ∷ make_index_text
    ∷ steps_text
    ∷ find_text
    ∷ []

-- a byte that names no program has an empty text
abbrev pub no_text : List ℕ → List ℕ
no_text s = []

unfoldable pub text_by : ℕ → List ℕ → List ℕ
text_by number s = get_or texts number no_text s

-- a case without a byte names no program
abbrev pub case_text : List ℕ → List ℕ
case_text [] = []
case_text (number ∷ s) = text_by number s
