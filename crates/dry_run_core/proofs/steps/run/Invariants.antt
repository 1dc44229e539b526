use Rattle.dry_run_core.proofs.StepsLaws.{Here}
use Rattle.dry_run_core.proofs.steps.run.Given as goal

abbrev pub invariant-loop-steps : goal.invariant-loop-steps
invariant-loop-steps l = Here l.image l.allowance l.initial.m l.m l.steps
