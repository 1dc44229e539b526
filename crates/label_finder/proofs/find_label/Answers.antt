use Rattle.std.specs.Prelude.{None}
use Rattle.std.proofs.Common.{◌≡◌, sym, arith}
use Rattle.std.proofs.lemmas.Result.{err_from_is_err_and}
use Rattle.labels.proofs.LookupLaws.{label_count}
use Rattle.label_finder.proofs.FindLaws.{labels_are, stopped, names_stop, looked}
use Rattle.label_finder.proofs.find_label.Goals as goal

pub returns-in_err-check_layouts : goal.returns-in_err-check_layouts
returns-in_err-check_layouts c =
    let p = err_from_is_err_and c.from_residual.result c.from_residual.ensures.1 in
    rw (p.1, p.2) (stopped _ _ _ _ (sym c.in_err-check_layouts.ensures))

pub make-requires-clause-labels_value : goal.make-requires-clause-labels_value
make-requires-clause-labels_value c = labels_are _ _ (sym c.in_ok-check_layouts.ensures)

pub make-requires-clause-places_in_bounds : goal.make-requires-clause-places_in_bounds
make-requires-clause-places_in_bounds c =
    let n = label_count _ (labels_are _ _ (sym c.in_ok-check_layouts.ensures)) in
    (omega arith, omega arith)

pub returns-in_err-table : goal.returns-in_err-table
returns-in_err-table c =
    let p = err_from_is_err_and c.from_residual-in_err-table.result c.from_residual-in_err-table.ensures.1 in
    rw (p.1, p.2) (names_stop _ _ _ (sym c.in_ok-check_layouts.ensures) _ (sym c.in_err-table.ensures))

pub returns : goal.returns
returns c =
    let t = c.in_ok-table.ensures in
    looked _ _ _ (sym c.in_ok-check_layouts.ensures) _ _ (rw t.0 at t.1.distinct) (rw t.0 at t.1.ordered)
    (rw t.0 at c.get.ensures.0) (rw t.0 at c.get.ensures.1) c.get.ensures.2
