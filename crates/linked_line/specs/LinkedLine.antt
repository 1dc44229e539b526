-- What the linked call for a line returns, and what it leaves in its lent buffers. Assumes nothing.
use Rattle.std.specs.Prelude.{Ok, Err, ℕ, List, true, false, ◌&&◌, length, leb}
use Rattle.jobs.specs.declared.Job.{Job}
use Rattle.jobs.specs.declared.Job.TheVariants.{Commit}
use Rattle.record.specs.Stores.{append}
use Rattle.linked_answer.specs.Words.{answer_bytes, too_short, number_of, words_as_bytes}
use Rattle.emit_outcome.specs.declared.FillCounts.{FillCounts}
use Rattle.emit_outcome.specs.Answer.{EmitAnswer}
use Rattle.emit_outcome.specs.declared.LinePlace.{LinePlace}
use Rattle.emit_outcome.specs.Call.{Lent, EmitOutcome, call_of}
use Rattle.emit_outcome.specs.Emit.{emit_outcome}
use Rattle.linked_line.specs.LineWords.{emitted_words, counts_bytes, counts_at, count_words}

-- the counts' bytes after the call: a refused line leaves them as they were
abbrev pub counts_after : EmitAnswer → FillCounts → List ℕ → List ℕ
counts_after (Ok done) c counts = append counts 0 (words_as_bytes (count_words c))
counts_after (Err refused) c counts = counts

pub record LinkedLine : Type 0 where
  pub result : ℕ
  pub lent : Lent
  pub counts : List ℕ
  pub answer : List ℕ

abbrev pub line_answered : EmitOutcome → (counts answer : List ℕ) → LinkedLine
line_answered outcome counts answer =
    let words = emitted_words outcome.answer in
    record {
      result = number_of words;
      lent = outcome.lent;
      counts = counts_after outcome.answer outcome.counts counts;
      answer = append answer 0 (words_as_bytes words);
    }

-- if the answer has fewer than 24 bytes, or the counts fewer than 12, nothing is done
unfoldable pub linked_line_by : Job → (token_list mnemonic descriptors : List ℕ) → Lent → (counts : List ℕ) → LinePlace → (answer : List ℕ) → LinkedLine
linked_line_by job token_list mnemonic descriptors lent counts place answer =
    elim (leb answer_bytes (length answer) && leb counts_bytes (length counts)) [
      | true ↦ line_answered (emit_outcome job (call_of token_list mnemonic descriptors lent (counts_at counts) place)) counts answer
      | false ↦ record { result = too_short; lent = lent; counts = counts; answer = answer }
    ]

-- the same in a job as the commit has it
abbrev pub linked_line : (token_list mnemonic descriptors : List ℕ) → Lent → (counts : List ℕ) → LinePlace → (answer : List ℕ) → LinkedLine
linked_line = linked_line_by Commit
