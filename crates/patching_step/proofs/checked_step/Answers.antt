use Rattle.std.specs.Prelude.{Err, Ok}
use Rattle.std.proofs.Common.{[], refl, arith}
use Rattle.std.proofs.lemmas.Result.{err_from_is_err_and}
use Rattle.labels.specs.Labels.{table_of}
use Rattle.labels.proofs.LookupLaws.{label_count}
use Rattle.patching_step.proofs.StepLaws.{lists_pass, checks_are, step_refuses}
use Rattle.patching_step.proofs.checked_step.Goals as goal

pub returns-in_err-check_layouts : goal.returns-in_err-check_layouts
returns-in_err-check_layouts c =
    let a = c.args in
    let p = err_from_is_err_and c.from_residual.result c.from_residual.ensures.1 in
    let t = table_of a.labels.now in
    rw (p.1, p.2)
    (step_refuses t a.entry.now a.regions.now a.pending.now a.kept.now a.counts a.job _
    (checks_are t a.entry.now a.regions.now a.pending.now a.kept.now a.counts (Err _) _ _ c.in_err-check_layouts.ensures refl refl))

pub make-requires-clause-labels_value : goal.make-requires-clause-labels_value
make-requires-clause-labels_value c = (lists_pass _ _ _ _ _ _ [] (c.in_ok-check_layouts.ensures [])).labels_good

pub make-requires-clause-places_in_bounds : goal.make-requires-clause-places_in_bounds
make-requires-clause-places_in_bounds c =
    let n = label_count _ (lists_pass _ _ _ _ _ _ [] (c.in_ok-check_layouts.ensures [])).labels_good in
    (omega arith, omega arith)

pub returns-in_err-table : goal.returns-in_err-table
returns-in_err-table c =
    let a = c.args in
    let t = table_of a.labels.now in
    let p = err_from_is_err_and c.from_residual-in_err-table.result c.from_residual-in_err-table.ensures.1 in
    rw (p.1, p.2)
    (step_refuses t a.entry.now a.regions.now a.pending.now a.kept.now a.counts a.job _
    (checks_are t a.entry.now a.regions.now a.pending.now a.kept.now a.counts (Ok tt) (Err _) _ c.in_ok-check_layouts.ensures c.in_err-table.ensures refl))
