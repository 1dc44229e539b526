-- Compares a call with an index to the same call without one (document 02, P1). Assumes nothing.
use Rattle.std.specs.Prelude.{ℕ, ◌≡◌}
use Rattle.jobs.specs.declared.Job.{Job}
use Rattle.record.specs.declared.Location.{Location}
use Rattle.refusal.specs.declared.Refusal.{Refusal}
use Rattle.refusal.specs.declared.Refusal.TheVariants.{BadLayout, DuplicateName, NoIndexSpace}
use Rattle.emit_outcome.specs.Emit.{emit_outcome}
use Rattle.indexed_outcome.specs.Indexed.{IndexedCall, indexed_outcome}

-- the refusals that only the labels or the index can cause: 1 with a 6 or 7, 2 with a 6, and 17
pub data Added : Refusal → Type 0 where
  labels_bad : (place : ℕ) → Added (BadLayout 6 place)
  index_bad : (place : ℕ) → Added (BadLayout 7 place)
  labels_share : (place : ℕ) → Added (DuplicateName 6 place)
  no_room : (l : Location) → Added (NoIndexSpace l)

-- answer, counts and lent bytes equal what the call without an index gives
pub record SameCall (job : Job) (x : IndexedCall) : Type 0 where
  pub answer_is : (indexed_outcome job x).answer ≡ (emit_outcome job x.call).answer
  pub counts_are : (indexed_outcome job x).counts.counts ≡ (emit_outcome job x.call).counts
  pub lent_is : (indexed_outcome job x).lent ≡ (emit_outcome job x.call).lent
