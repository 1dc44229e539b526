use Rattle.std.proofs.Common.{sym, arith}
use Rattle.std.proofs.lemmas.Result.{err_from_is_err_and}
use Rattle.labels.proofs.LabelsLaws.{labels_within}
use Rattle.regions.proofs.RegionsLaws.{region_good}
use Rattle.page_core.proofs.ChecksLaws.{labels_few}
use Rattle.page_core.proofs.OutcomeLaws.{layout_stops, lists_good}
use Rattle.page_core.proofs.lay_out.Goals as goal

pub returns-in_err-check_layouts : goal.returns-in_err-check_layouts
returns-in_err-check_layouts c =
    let p = err_from_is_err_and c.from_residual.result c.from_residual.ensures.1 in
    rw (p.1, p.2) (layout_stops c.args.labels.now c.args.regions.now c.args.page.now _ (sym c.in_err-check_layouts.ensures))

pub lay_out_by-requires-clause-labels_in_bounds : goal.lay_out_by-requires-clause-labels_in_bounds
lay_out_by-requires-clause-labels_in_bounds c =
    let n = labels_few c.args.labels.now (lists_good _ _ _ (sym c.in_ok-check_layouts.ensures)).0 in
    (omega arith, omega arith, omega arith)

pub lay_out_by-requires-2-clause-labels_in_bounds : goal.lay_out_by-requires-2-clause-labels_in_bounds
lay_out_by-requires-2-clause-labels_in_bounds c =
    let g = lists_good _ _ _ (sym c.in_ok-check_layouts.ensures) in
    let n = labels_few c.args.labels.now g.0 in
    let w = labels_within c.args.labels.now g.0 in
    (omega arith, omega arith, omega (arith, (region_good c.args.regions.now g.1).0))
