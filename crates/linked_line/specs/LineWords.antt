-- The words of a line's answer, and its fill counts in the caller's buffer. Assumes nothing.
use Rattle.std.specs.Prelude.{ℕ, List, [], ◌∷◌}
use Rattle.record.specs.Bytes.{le32}
use Rattle.emit_outcome.specs.Answer.{EmitAnswer}
use Rattle.emit_outcome.specs.declared.FillCounts.{FillCounts}
use Rattle.emit_outcome.specs.Returned.{returned}
use Rattle.linked_answer.specs.Words.{answer_words}

-- "its number, a location and numbers a and b", and the position as the last word
abbrev pub emitted_words : EmitAnswer → List ℕ
emitted_words answer = let r = returned answer in answer_words r.number r.location r.a r.b r.position

-- how many bytes the fill counts have
abbrev pub counts_bytes : ℕ
counts_bytes = 12

-- the three fill counts, four bytes each
abbrev pub counts_at : List ℕ → FillCounts
counts_at counts = record { data_len = le32 counts 0; pending = le32 counts 4; breakpoints = le32 counts 8 }

abbrev pub count_words : FillCounts → List ℕ
count_words c = c.data_len ∷ c.pending ∷ c.breakpoints ∷ []
