-- A refused line changes no lent byte except the answer's. Assumes nothing.
use Rattle.std.specs.Prelude.{ℕ, ◌≤◌, ◌≡◌, List, length}
use Rattle.std.proofs.Common.{le-leb}
use Rattle.jobs.specs.declared.Job.{Job}
use Rattle.record.specs.Stores.{append}
use Rattle.refusal.specs.declared.Refusal.{Refusal}
use Rattle.refusal.specs.Numbers.{numbered}
use Rattle.linked_answer.specs.Words.{answer_bytes, words_as_bytes}
use Rattle.emit_outcome.specs.declared.LinePlace.{LinePlace}
use Rattle.emit_outcome.specs.Answer.{refused_at}
use Rattle.emit_outcome.specs.Call.{Lent, call_of}
use Rattle.emit_outcome.specs.Emit.{emit_outcome}
use Rattle.emit_outcome.proofs.Refused.{refused_stays}
use Rattle.linked_line.specs.LineWords.{emitted_words, counts_bytes, counts_at}
use Rattle.linked_line.specs.LinkedLine.{linked_line_by}

pub line_refused : (job : Job) (token_list mnemonic descriptors : List ℕ) (lent : Lent) (counts : List ℕ) (place : LinePlace) (answer : List ℕ) (r : Refusal) (p : ℕ)
    → answer_bytes ≤ length answer → counts_bytes ≤ length counts → (emit_outcome job (call_of token_list mnemonic descriptors lent (counts_at counts) place)).answer ≡ refused_at r p
    → linked_line_by job token_list mnemonic descriptors lent counts place answer
    ≡ (record { result = (numbered r).number; lent = lent; counts = counts; answer = append answer 0 (words_as_bytes (emitted_words (refused_at r p))) })
unfolding linked_line_by
line_refused job token_list mnemonic descriptors lent counts place answer r p h k e =
    rw (le-leb answer_bytes (length answer) h, le-leb counts_bytes (length counts) k, linked_line_by, refused_stays job (call_of token_list mnemonic descriptors lent (counts_at counts) place) r p e)
