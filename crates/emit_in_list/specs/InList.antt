-- What an emit call into a list promises: it equals the emit call on a data buffer of the region's data and then free bytes. Assumes nothing.
use Rattle.std.specs.Prelude.{ℕ, ◌+◌, List, ◌++◌, ◌≡◌, take}
use Rattle.jobs.specs.declared.Job.{Job}
use Rattle.record.specs.Bytes.{part}
use Rattle.record.specs.Stores.{append}
use Rattle.emit_outcome.specs.Call.{Call, call_of, lent_of}
use Rattle.emit_outcome.specs.Emit.{emit_outcome}
use Rattle.emit_outcome.specs.Answer.{EmitAnswer}
use Rattle.emit_outcome.specs.declared.FillCounts.{FillCounts}
use Rattle.emit_outcome.specs.declared.LinePlace.{LinePlace}
use Rattle.patching_outcome.specs.Grown.{inserted}
use Rattle.patching_outcome.specs.Line.{new_words}

-- the region's data, and `room` free bytes
abbrev pub data_in : List ℕ → (start size fill room : ℕ) → List ℕ
data_in list start size fill room = part list start size ++ part list fill room

abbrev pub list_call : (tokens mnemonic descriptors list pending breakpoints : List ℕ) → FillCounts → LinePlace → (start fill room : ℕ) → Call
list_call tokens mnemonic descriptors list pending breakpoints counts place start fill room =
    call_of tokens mnemonic descriptors (lent_of (data_in list start counts.data_len fill room) pending breakpoints) counts place

-- the words are inserted after the data; what stood there comes after them
pub record EmittedIn (job : Job) (call : Call) (list : List ℕ) (start fill : ℕ) (answer : EmitAnswer) (counts : FillCounts) (list_after pending_after breakpoints_after : List ℕ) : Type 0 where
  pub answer_is : answer ≡ (emit_outcome job call).answer
  pub counts_are : counts ≡ (emit_outcome job call).counts
  pub list_is : list_after ≡ append list 0 (inserted (take fill list) (start + call.numbers.counts.data_len) (new_words call.numbers.counts.data_len (emit_outcome job call)))
  pub pending_is : pending_after ≡ (emit_outcome job call).lent.pending
  pub breakpoints_are : breakpoints_after ≡ (emit_outcome job call).lent.breakpoints
