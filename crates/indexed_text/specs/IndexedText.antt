-- What `emit_indexed` prints for an emit call with labels and an index (document 02, P1): what `emit_line` prints, with a fourth fill count and
-- the index buffer last. Assumes nothing.
use Rattle.std.specs.Prelude.{ℕ, List, ◌++◌}
use Rattle.jobs.specs.declared.Job.TheVariants.{Commit}
use Rattle.record.specs.Texts.{bytes_of}
use Rattle.emit_outcome.specs.declared.FillCounts.{FillCounts}
use Rattle.emit_outcome.specs.declared.LinePlace.{LinePlace}
use Rattle.emit_outcome.specs.Answer.{EmitAnswer}
use Rattle.emit_outcome.specs.Call.{Lent, lent_of, call_of}
use Rattle.indexed_outcome.specs.declared.IndexedCounts.{IndexedCounts}
use Rattle.indexed_outcome.specs.Indexed.{IndexedCall, IndexedOutcome, indexed_call_of, indexed_outcome}
use Rattle.input.specs.Input.{word_or_zero, half_or_zero, behind_lists, list_of, held}
use Rattle.text.specs.Text.{field, last_field}
use Rattle.bytes_line.specs.BytesLine.{bytes_line}
use Rattle.line_text.specs.Line.{answer_text, loaded_text}

-- ---- the text of an outcome
-- the counts of data, pending, breakpoints and index
unfoldable pub fills_line : IndexedCounts → List ℕ
fills_line c =
    bytes_of "fills" ++ field c.counts.data_len ++ field c.counts.pending ++ field c.counts.breakpoints ++ last_field c.index

unfoldable pub head_text : EmitAnswer → IndexedCounts → List ℕ
head_text a c = answer_text a ++ fills_line c ++ loaded_text a

unfoldable pub outcome_text : IndexedOutcome → List ℕ
outcome_text o =
    head_text o.answer o.counts
    ++ bytes_line (bytes_of "data ") o.lent.region_data
    ++ bytes_line (bytes_of "pending ") o.lent.pending
    ++ bytes_line (bytes_of "breakpoints ") o.lent.breakpoints
    ++ bytes_line (bytes_of "index ") o.index

-- ---- the call of an input: the eight buffers in argument order, then the four fill counts, the position, the region and its address
abbrev pub three_in : List ℕ → FillCounts
three_in s = record { data_len = word_or_zero s 0; pending = word_or_zero s 4; breakpoints = word_or_zero s 8 }

abbrev pub counts_in : List ℕ → IndexedCounts
counts_in s = record { counts = three_in s; index = word_or_zero s 12 }

abbrev pub place_in : List ℕ → LinePlace
place_in s = record { position = word_or_zero s 16; region = half_or_zero s 20; address = word_or_zero s 22 }

abbrev pub call_in : List ℕ → Lent → (index : List ℕ) → IndexedCall
call_in s lent index =
    let rest = behind_lists 8 s in
    indexed_call_of (call_of (list_of 0 s) (list_of 1 s) (list_of 2 s) lent (counts_in rest).counts (place_in rest)) (list_of 6 s) index (counts_in rest).index

-- "it reads no job (the commit's)"
abbrev pub call_text : List ℕ → Lent → (index : List ℕ) → List ℕ
call_text s lent index = outcome_text (indexed_outcome Commit (call_in s lent index))

-- the four buffers that the call may change are cut to what `held` keeps
unfoldable pub emit_indexed_text : List ℕ → List ℕ
emit_indexed_text s = call_text s (lent_of (held (list_of 3 s)) (held (list_of 4 s)) (held (list_of 5 s))) (held (list_of 7 s))
