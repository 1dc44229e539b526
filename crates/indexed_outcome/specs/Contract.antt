-- What an emit call with an index promises in each sort of job, whether its counts are lent or passed by value. Assumes nothing.
use Rattle.std.specs.Prelude.{ℕ, List, ◌≡◌}
use Rattle.jobs.specs.declared.Job.{Job}
use Rattle.emit_outcome.specs.Answer.{EmitAnswer}
use Rattle.emit_outcome.specs.Call.{Lent}
use Rattle.emit_outcome.specs.Returned.{returned}
use Rattle.indexed_outcome.specs.declared.IndexedCounts.{IndexedCounts}
use Rattle.indexed_outcome.specs.Indexed.{IndexedCall, indexed_outcome, indexed_outcome_of}

-- "An entry's contract determines answer, counts and each lent byte from its inputs, refusals too"
pub record IndexedBy (job : Job) (x : IndexedCall) (answer : EmitAnswer) (counts : IndexedCounts) (lent : Lent) (index : List ℕ) : Type 0 where
  pub outcome_is : indexed_outcome job x ≡ indexed_outcome_of answer counts lent index
  -- number, location, a, b and position
  pub returned_is : returned answer ≡ returned (indexed_outcome job x).answer
