use Rattle.std.proofs.Common.{sym, ap, ◌∙◌}
use Rattle.reading.specs.Reading.{Image, image_of}
use Rattle.machine.specs.declared.Machine.{Machine}
use Rattle.refusal.specs.Verdicts.{Verdict}
use Rattle.dry_run_outcome.specs.Run.{run}
use Rattle.dry_run_outcome.specs.DryRun.{started, outcome_by, dry_run_outcome}
use Rattle.dry_run_outcome.proofs.DryRunLaws.{stopped_run}
use Rattle.dry_run_core.proofs.dry_run.Goals as goal

pub returns-in-Err : goal.returns-in-Err
unfolding dry_run_outcome
returns-in-Err c =
    let a = c.args in
    sym (ap (λ (v : Verdict). outcome_by v a.machine (run a.allowance (image_of a.regions.now) (started a.machine))) c.in-Err.ensures)

pub returns-in-Ok : goal.returns-in-Ok
unfolding dry_run_outcome
returns-in-Ok c =
    let a = c.args in
    ap stopped_run
    (c.run-ran.ensures ∙ ap (λ (i : Image). run a.allowance i c.start.result) c.in-Ok.ensures.1
    ∙ ap (λ (m : Machine). run a.allowance (image_of a.regions.now) m) c.start.ensures)
    ∙ sym (ap (λ (v : Verdict). outcome_by v a.machine (run a.allowance (image_of a.regions.now) (started a.machine))) c.in-Ok.ensures.0)
