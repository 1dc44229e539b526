use Rattle.std.specs.Prelude.{Err, Ok}
use Rattle.std.proofs.Common.{refl, sym, ap, ◌∙◌, arith}
use Rattle.std.proofs.lemmas.Result.{err_from_is_err_and}
use Rattle.refusal.specs.Verdicts.{layout_verdict}
use Rattle.labels.proofs.LabelsLaws.{label_place_lem}
use Rattle.regions.proofs.RegionsLaws.{region_place_lem}
use Rattle.page_core.proofs.ChecksLaws.{page_long, page_within, verdicts_are}
use Rattle.page_core.proofs.check_layouts.Goals as goal

pub check_layout-requires : goal.check_layout-requires
check_layout-requires c = λ place e. omega (arith, label_place_lem c.args.labels.now place (sym c.first_bad_label.ensures ∙ e))

pub returns-in_err-check_layout : goal.returns-in_err-check_layout
returns-in_err-check_layout c =
    let p = err_from_is_err_and c.from_residual.result c.from_residual.ensures.1 in
    rw (p.1, p.2) (verdicts_are _ _ _ (Err _) _ _ (c.in_err-check_layout.ensures ∙ ap (layout_verdict 0) c.first_bad_label.ensures) refl refl)

pub check_layout-requires-2 : goal.check_layout-requires-2
check_layout-requires-2 c = λ place e. omega (arith, region_place_lem c.args.regions.now place (sym c.first_bad_region.ensures ∙ e))

pub returns-in_err-check_layout-2 : goal.returns-in_err-check_layout-2
returns-in_err-check_layout-2 c =
    let p = err_from_is_err_and c.from_residual-in_err-check_layout-2.result c.from_residual-in_err-check_layout-2.ensures.1 in
    rw (p.1, p.2)
    (verdicts_are _ _ _ (Ok tt) (Err _) _ (c.in_ok-check_layout.ensures ∙ ap (layout_verdict 0) c.first_bad_label.ensures)
    (c.in_err-check_layout-2.ensures ∙ ap (layout_verdict 1) c.first_bad_region.ensures) refl)

pub returns-then-page-gt-LIMIT : goal.returns-then-page-gt-LIMIT
returns-then-page-gt-LIMIT c =
    verdicts_are _ _ _ (Ok tt) (Ok tt) (Err _) (c.in_ok-check_layout.ensures ∙ ap (layout_verdict 0) c.first_bad_label.ensures)
    (c.in_ok-check_layout-2.ensures ∙ ap (layout_verdict 1) c.first_bad_region.ensures) (ap (layout_verdict 2) (sym (page_long _ c.if-page-gt-LIMIT.true)))

pub returns : goal.returns
returns c =
    verdicts_are _ _ _ (Ok tt) (Ok tt) (Ok tt) (c.in_ok-check_layout.ensures ∙ ap (layout_verdict 0) c.first_bad_label.ensures)
    (c.in_ok-check_layout-2.ensures ∙ ap (layout_verdict 1) c.first_bad_region.ensures) (ap (layout_verdict 2) (sym (page_within _ c.if-page-gt-LIMIT.false)))
