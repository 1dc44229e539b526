-- Laws of the linked call for a line: too short a buffer, and an answered call. Assumes nothing.
use Rattle.std.specs.Prelude.{ℕ, ◌≤◌, ◌≡◌, List, false, ◌&&◌, length, leb}
use borrow.Author.Tests.{le-leb}
use Rattle.jobs.specs.declared.Job.{Job}
use Rattle.record.specs.Stores.{append}
use Rattle.linked_answer.specs.Words.{answer_bytes, too_short, number_of, words_as_bytes}
use Rattle.emit_outcome.specs.declared.FillCounts.{FillCounts}
use Rattle.emit_outcome.specs.declared.LinePlace.{LinePlace}
use Rattle.emit_outcome.specs.Answer.{EmitAnswer}
use Rattle.emit_outcome.specs.Call.{Lent, call_of, outcome_of}
use Rattle.emit_outcome.specs.Emit.{emit_outcome}
use Rattle.linked_line.specs.LineWords.{emitted_words, counts_bytes, counts_at}
use Rattle.linked_line.specs.LinkedLine.{counts_after, linked_line_by}

module _ (job : Job) (token_list mnemonic descriptors : List ℕ) (lent : Lent) (counts : List ℕ) (place : LinePlace) (answer : List ℕ) where
  pub line_short : (leb answer_bytes (length answer) && leb counts_bytes (length counts)) ≡ false
      → linked_line_by job token_list mnemonic descriptors lent counts place answer ≡ (record { result = too_short; lent = lent; counts = counts; answer = answer })
  unfolding linked_line_by
  line_short e = rw (e, linked_line_by)

  pub line_answered_lem : {given : EmitAnswer} {filled : FillCounts} {lent' : Lent} {counts' words answer' : List ℕ} (c : FillCounts) → answer_bytes ≤ length answer → counts_bytes ≤ length counts
      → c ≡ counts_at counts → emit_outcome job (call_of token_list mnemonic descriptors lent c place) ≡ outcome_of given filled lent'
      → words ≡ emitted_words given → counts' ≡ counts_after given filled counts → answer' ≡ append answer 0 (words_as_bytes words)
      → linked_line_by job token_list mnemonic descriptors lent counts place answer ≡ (record { result = number_of words; lent = lent'; counts = counts'; answer = answer' })
  unfolding linked_line_by
  line_answered_lem c h k e o w n a = rw (le-leb answer_bytes (length answer) h, le-leb counts_bytes (length counts) k, linked_line_by, a, n, w, ← e, o)
