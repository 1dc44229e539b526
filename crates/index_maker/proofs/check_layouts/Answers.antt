use Rattle.std.specs.Prelude.{◌≡◌, ℕ, List, Err, None}
use Rattle.std.proofs.Common.{refl, sym, ap, ap₂, ◌∙◌, arith}
use Rattle.std.proofs.lemmas.Result.{err_from_is_err_and}
use Rattle.record.specs.Records.{within_limit}
use Rattle.record.proofs.RecordsLaws.{limit_bad}
use Rattle.refusal.specs.Verdicts.{and_then, layout_verdict, Verdict}
use Rattle.labels.proofs.LabelsLaws.{label_place_lem}
use Rattle.breakpoints.specs.Breakpoints.{pending_buffer_layout}
use Rattle.labels.specs.Labels.{label_layout}
use Rattle.emit_checks.proofs.PlacesLaws.{pending_place}
use Rattle.indexed_outcome.specs.Make.{make_layouts}
use Rattle.indexed_outcome.proofs.MakeLaws.{layouts_are}
use Rattle.index_maker.proofs.check_layouts.Goals as goal

-- The verdict of the layouts, from the verdict of each buffer.
by_each : (fill : ℕ) (pending labels index : List ℕ) (u v w : Verdict) → layout_verdict 0 (pending_buffer_layout fill pending) ≡ u → layout_verdict 1 (label_layout labels) ≡ v
    → layout_verdict 2 (within_limit index None) ≡ w → make_layouts fill pending labels index ≡ and_then u (and_then v w)
by_each fill pending labels index u v w e f g =
    layouts_are fill pending labels index _ _ _ refl refl refl
    ∙ ap (λ (x : Verdict). and_then x (and_then (layout_verdict 1 (label_layout labels)) (layout_verdict 2 (within_limit index None)))) e
    ∙ ap₂ (λ (x y : Verdict). and_then u (and_then x y)) f g

pub check_layout-requires : goal.check_layout-requires
check_layout-requires c p e = omega (arith, pending_place _ _ p (sym c.check_pending_buffer.ensures ∙ e))

pub returns-in_err-check_layout : goal.returns-in_err-check_layout
returns-in_err-check_layout c =
    let a = c.args in
    let p = err_from_is_err_and _ c.from_residual.ensures.1 in
    p.1 ∙ ap Err p.2
    ∙ sym (by_each a.fill a.pending.now a.labels.now a.index.now _ _ _ (ap (layout_verdict 0) (sym c.check_pending_buffer.ensures) ∙ sym c.in_err-check_layout.ensures) refl refl)

pub check_layout-requires-2 : goal.check_layout-requires-2
check_layout-requires-2 c p e = omega (arith, label_place_lem _ p (sym c.first_bad_label.ensures ∙ e))

pub returns-in_err-check_layout-2 : goal.returns-in_err-check_layout-2
returns-in_err-check_layout-2 c =
    let a = c.args in
    let p = err_from_is_err_and _ c.from_residual-in_err-check_layout-2.ensures.1 in
    p.1 ∙ ap Err p.2
    ∙ sym (by_each a.fill a.pending.now a.labels.now a.index.now _ _ _ (ap (layout_verdict 0) (sym c.check_pending_buffer.ensures) ∙ sym c.in_ok-check_layout.ensures)
    (ap (layout_verdict 1) (sym c.first_bad_label.ensures) ∙ sym c.in_err-check_layout-2.ensures) refl)

pub check_layout-requires-3 : goal.check_layout-requires-3
check_layout-requires-3 c p e =
    omega (arith, limit_bad c.args.index.now None p (sym c.past_limit.ensures ∙ e) (λ none. let z : ◌≡◌ {A = ℕ} 0 1 = cc in absurd (omega arith)))

pub returns : goal.returns
returns c =
    let a = c.args in
    c.check_layout-3.ensures
    ∙ sym (by_each a.fill a.pending.now a.labels.now a.index.now _ _ _ (ap (layout_verdict 0) (sym c.check_pending_buffer.ensures) ∙ sym c.in_ok-check_layout.ensures)
    (ap (layout_verdict 1) (sym c.first_bad_label.ensures) ∙ sym c.in_ok-check_layout-2.ensures) (ap (layout_verdict 2) (sym c.past_limit.ensures)))
