-- What an emit call promises in each sort of job, whether its counts are passed by value or lent. Assumes nothing.
use Rattle.std.specs.Prelude.{◌≡◌}
use Rattle.jobs.specs.declared.Job.{Job}
use Rattle.jobs.specs.declared.Job.TheVariants.{Commit}
use Rattle.emit_outcome.specs.Answer.{EmitAnswer}
use Rattle.emit_outcome.specs.declared.FillCounts.{FillCounts}
use Rattle.emit_outcome.specs.Call.{Lent, Call, outcome_of}
use Rattle.emit_outcome.specs.Emit.{emit_outcome}
use Rattle.emit_outcome.specs.Returned.{returned}

-- "An entry's contract determines answer, counts and each lent byte from its inputs, refusals too"
pub record EmittedBy (job : Job) (call : Call) (answer : EmitAnswer) (counts : FillCounts) (lent : Lent) : Type 0 where
  pub outcome_is : emit_outcome job call ≡ outcome_of answer counts lent
  -- number, location, a, b and position
  pub returned_is : returned answer ≡ returned (emit_outcome job call).answer

-- "Old jobs still equal the commit" (document 02, P5): what `do_instruction` promises
abbrev pub EmittedIs : Call → EmitAnswer → FillCounts → Lent → Type 0
EmittedIs = EmittedBy Commit
