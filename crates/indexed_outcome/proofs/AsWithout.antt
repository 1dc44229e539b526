-- "Equality with the Rust leaves out calls refused from 17 on": unless labels or index alone cause a refusal, answer, counts and lent bytes are those
-- of the call without index. `same_call` says that such a refusal is given only if it is due. Assumes nothing.
use Rattle.std.specs.Prelude.{ℕ, ◌⊎◌, ◌≡◌, refl}
use Rattle.jobs.specs.declared.Job.{Job}
use Rattle.refusal.specs.declared.Refusal.{Refusal}
use Rattle.emit_outcome.specs.Answer.{refused_at}
use Rattle.indexed_outcome.specs.Indexed.{IndexedCall, indexed_outcome}
use Rattle.indexed_outcome.specs.Beside.{Added, SameCall}
use Rattle.indexed_outcome.proofs.BesideLaws.{lists, labels_well, index_well, names_once, labels_once, beside}

pub as_without : (job : Job) (x : IndexedCall)
    → SameCall job x ⊎ ((r : Refusal) × (position : ℕ) × ((indexed_outcome job x).answer ≡ refused_at r position) × Added r)
as_without job x = beside job x (lists job x) (labels_well job x) (index_well job x) (names_once job x) (labels_once job x) refl refl refl refl refl
