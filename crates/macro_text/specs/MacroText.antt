-- What `expand` prints (document 02, P8), in the lines that docs/DECISIONS.md gives. Assumes nothing.
use Rattle.std.specs.Prelude.{ℕ, List, take, replicate, Err, Ok, Result}
use Rattle.refusal.specs.Numbers.{numbered}
use Rattle.input.specs.Input.{list_of, behind_lists, word_or_zero}
use Rattle.text.specs.Text.{refused_line}
use Rattle.token_text.specs.TokenText.{tokens_line}
use Rattle.written_out.specs.Outcome.{WriteOutOutcome, write_out_outcome}
use Rattle.refusal.specs.declared.Refusal.{Refusal}

-- `tokens` and the filled part in hexadecimal, or "A refusal prints alone"
abbrev pub answer_text : Result ℕ Refusal → List ℕ → List ℕ
answer_text (Ok fill) out = tokens_line (take fill out)
answer_text (Err r) out = refused_line (numbered r)

abbrev pub outcome_text : WriteOutOutcome → List ℕ
outcome_text o = answer_text o.answer o.out

-- an input is the token list and the macro list, each after its 4-byte count, and the length of the written-out buffer, four bytes
unfoldable pub expand_text : List ℕ → List ℕ
expand_text s = outcome_text (write_out_outcome (list_of 0 s) (list_of 1 s) (replicate (word_or_zero (behind_lists 2 s) 0) 0))
