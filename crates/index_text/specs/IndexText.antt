-- What `make_index` prints (document 02, P1), in the lines that docs/DECISIONS.md gives. Assumes nothing.
use Rattle.std.specs.Prelude.{ℕ, List, ◌++◌, Err, Ok, Result}
use Rattle.record.specs.Texts.{bytes_of}
use Rattle.refusal.specs.Numbers.{numbered}
use Rattle.input.specs.Input.{list_of, behind_lists, word_or_zero}
use Rattle.text.specs.Text.{last_field, refused_line}
use Rattle.bytes_line.specs.BytesLine.{bytes_line}
use Rattle.indexed_outcome.specs.Make.{MakeOutcome, make_outcome}
use Rattle.refusal.specs.declared.Refusal.{Refusal}

-- `fill` and the count, then `index` and the whole index buffer in hexadecimal
abbrev pub made_text : (fill : ℕ) (index : List ℕ) → List ℕ
made_text fill index = (bytes_of "fill" ++ last_field fill) ++ bytes_line (bytes_of "index ") index

-- "A refusal prints alone"
abbrev pub answer_text : Result ℕ Refusal → List ℕ → List ℕ
answer_text (Ok fill) index = made_text fill index
answer_text (Err r) index = refused_line (numbered r)

abbrev pub outcome_text : MakeOutcome → List ℕ
outcome_text o = answer_text o.answer o.index

-- an input is the pending buffer, the label list and the index buffer, each after its 4-byte count, and then the pending buffer's 4-byte fill count
unfoldable pub make_index_text : List ℕ → List ℕ
make_index_text s = outcome_text (make_outcome (word_or_zero (behind_lists 3 s) 0) (list_of 0 s) (list_of 1 s) (list_of 2 s))
