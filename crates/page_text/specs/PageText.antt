-- What `page` prints (document 02, P3), as docs/DECISIONS.md says. Assumes nothing.
use Rattle.std.specs.Prelude.{ℕ, true, false, List, leb, length, take, replicate, Err, Ok, Result}
use Rattle.record.specs.Bytes.{le32}
use Rattle.refusal.specs.Numbers.{numbered}
use Rattle.input.specs.Input.{behind_lists, list_of}
use Rattle.text.specs.Text.{refused_line}
use Rattle.page_outcome.specs.Outcome.{PageOutcome, page_limit, page_outcome}
use Rattle.refusal.specs.declared.Refusal.{Refusal}

-- the page itself; "A refusal prints alone"
abbrev pub answer_text : Result ℕ Refusal → (page : List ℕ) → List ℕ
answer_text (Ok length) page = take length page
answer_text (Err r) page = refused_line (numbered r)

abbrev pub outcome_text : PageOutcome → List ℕ
outcome_text o = answer_text o.answer o.page

-- the length of the page buffer comes after the lists; if one of its four bytes is missing, it is the limit
abbrev pub length_in : List ℕ → ℕ
length_in rest = elim (leb 4 (length rest)) [ true ↦ le32 rest 0 | false ↦ page_limit ]

-- an input is the labels and the regions, each after its count, and then the length of the page buffer
unfoldable pub page_text : List ℕ → List ℕ
page_text s = outcome_text (page_outcome (list_of 0 s) (list_of 1 s) (replicate (length_in (behind_lists 2 s)) 0))
