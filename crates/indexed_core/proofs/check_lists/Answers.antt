use Rattle.std.specs.Prelude.{ℕ, List, ◌≡◌, Err}
use Rattle.std.proofs.Common.{refl, sym, ap, ap₂, ◌∙◌, arith, length-take, length-take-le}
use Rattle.std.proofs.lemmas.Result.{err_from_is_err_and}
use Rattle.refusal.specs.Verdicts.{and_then, layout_verdict, name_verdict, Verdict}
use Rattle.refusal.proofs.VerdictsLaws.{layout_pass, verdict}
use Rattle.labels.proofs.LabelsLaws.{repeat_place, label_place_lem}
use Rattle.descriptors.specs.Descriptors.{descriptor_repeat}
use Rattle.labels.specs.Labels.{label_layout, label_repeat}
use Rattle.emit_outcome.specs.Call.{lent_of, call_of, filled_pending}
use Rattle.emit_outcome.specs.Checks.{layout_stop}
use Rattle.emit_checks.proofs.ListsLaws.{layouts_pass}
use Rattle.emit_checks.proofs.PlacesLaws.{repeat_place as descriptor_place}
use Rattle.label_uses.specs.UseBytes.{index_layout}
use Rattle.indexed_outcome.specs.Indexed.{IndexedCall, indexed_call_of, indexed_stop}
use Rattle.indexed_core.proofs.ChecksLaws.{index_place, pending_passes, stops_are}
use Rattle.indexed_core.proofs.check_lists.Goals as goal
use Rattle.indexed_core.proofs.check_lists.Goals.{After-check_layouts, After-check_uses-uses, After-first_repeat}

abbrev call : After-check_layouts → IndexedCall
call c =
    let a = c.args in
    indexed_call_of (call_of a.lists.tokens.now a.lists.mnemonic.now a.lists.descriptors.now (lent_of a.«data».now a.pending.now a.breakpoints.now) a.counts.counts a.place) a.labels.now a.index.now a.counts.index

-- Why the call stops, from the verdict of each check.
by_each : (x : IndexedCall) (s t u v w : Verdict) → let c = x.call in
    layout_stop c.token_list c.mnemonic c.descriptors c.lent c.numbers.place.region c.numbers.counts ≡ s
    → layout_verdict 6 (label_layout x.labels) ≡ t
    → layout_verdict 7 (index_layout x.labels (filled_pending c.lent c.numbers.counts) x.fill x.index) ≡ u
    → name_verdict 2 (descriptor_repeat c.descriptors) ≡ v
    → name_verdict 6 (label_repeat x.labels) ≡ w
    → indexed_stop x ≡ and_then s (and_then t (and_then u (and_then v w)))
by_each x s t u v w hs ht hu hv hw =
    let c = x.call in
    let index = index_layout x.labels (filled_pending c.lent c.numbers.counts) x.fill x.index in
    stops_are x s _ _ _ _ hs refl refl refl refl
    ∙ ap₂ (λ (p q : Verdict). and_then s (and_then p (and_then q (and_then (name_verdict 2 (descriptor_repeat c.descriptors)) (name_verdict 6 (label_repeat x.labels)))))) ht hu
    ∙ ap₂ (λ (p q : Verdict). and_then s (and_then t (and_then u (and_then p q)))) hv hw

pub returns-in_err-check_layouts : goal.returns-in_err-check_layouts
returns-in_err-check_layouts c =
    let p = err_from_is_err_and _ c.from_residual.ensures.1 in
    p.1 ∙ ap Err p.2
    ∙ sym (by_each (call (goal.at.returns-in_err-check_layouts c).After-check_layouts) _ _ _ _ _ (sym c.in_err-check_layouts.ensures) refl refl refl refl)

pub check_layout-requires : goal.check_layout-requires
check_layout-requires c p e = omega (arith, label_place_lem _ p (sym c.first_bad_label.ensures ∙ e))

pub returns-in_err-check_layout : goal.returns-in_err-check_layout
returns-in_err-check_layout c =
    let p = err_from_is_err_and _ c.from_residual-in_err-check_layout.ensures.1 in
    p.1 ∙ ap Err p.2
    ∙ sym (by_each (call (goal.at.returns-in_err-check_layout c).After-check_layouts) _ _ _ _ _ (sym c.in_ok-check_layouts.ensures)
    (verdict (layout_verdict 6) c.first_bad_label.ensures c.in_err-check_layout.ensures) refl refl refl)

pub slice_bounds-new-end : goal.slice_bounds-new-end
slice_bounds-new-end c =
    let a = c.args in
    sym (length-take-le _ _ (pending_passes _ _ _ (lent_of a.«data».now a.pending.now a.breakpoints.now) a.place.region _ (sym c.in_ok-check_layouts.ensures)).1)

pub new-requires : goal.new-requires
new-requires c =
    let a = c.args in
    let p = pending_passes _ _ _ (lent_of a.«data».now a.pending.now a.breakpoints.now) a.place.region a.counts.counts (sym c.in_ok-check_layouts.ensures) in
    (p.2, omega (arith, p.0, length-take a.counts.counts.pending a.pending.now))

pub check_uses-uses-requires : goal.check_uses-uses-requires
check_uses-uses-requires c = sym c.first_bad_label.ensures ∙ layout_pass 6 _ (sym c.in_ok-check_layout.ensures)

-- The layout that was found is that of the filled pending list.
layout_is : (c : After-check_uses-uses) → let a = c.args in
    c.check_uses-uses.result.layout ≡ index_layout a.labels.now (filled_pending (lent_of a.«data».now a.pending.now a.breakpoints.now) a.counts.counts) a.counts.index a.index.now
layout_is c = let a = c.args in c.check_uses-uses.ensures.0 ∙ ap (λ (p : List ℕ). index_layout a.labels.now p a.counts.index a.index.now) c.new.ensures

pub check_layout-requires-2 : goal.check_layout-requires-2
check_layout-requires-2 c p e = omega (arith, index_place _ _ _ _ p (sym (layout_is (goal.at.check_layout-requires-2 c).After-check_uses-uses) ∙ e))

pub returns-in_err-check_layout-2 : goal.returns-in_err-check_layout-2
returns-in_err-check_layout-2 c =
    let p = err_from_is_err_and _ c.from_residual-in_err-check_layout-2.ensures.1 in
    p.1 ∙ ap Err p.2
    ∙ sym (by_each (call (goal.at.returns-in_err-check_layout-2 c).After-check_layouts) _ _ _ _ _ (sym c.in_ok-check_layouts.ensures)
    (verdict (layout_verdict 6) c.first_bad_label.ensures c.in_ok-check_layout.ensures) (verdict (layout_verdict 7) (layout_is (goal.at.returns-in_err-check_layout-2 c).After-check_uses-uses) c.in_err-check_layout-2.ensures) refl refl)

pub new-requires-2 : goal.new-requires-2
new-requires-2 c =
    let a = c.args in
    (layouts_pass _ _ _ (lent_of a.«data».now a.pending.now a.breakpoints.now) a.place.region _ (sym c.in_ok-check_layouts.ensures)).descriptors_good

-- The repeat that was found is that of the descriptor list.
repeat_is : (c : After-first_repeat) → c.first_repeat.result ≡ descriptor_repeat c.args.lists.descriptors.now
repeat_is c = c.first_repeat.ensures ∙ ap descriptor_repeat c.new-2.ensures

pub check_names-requires : goal.check_names-requires
check_names-requires c p e =
    let a = c.args in
    omega (arith, descriptor_place _ p (layouts_pass _ _ _ (lent_of a.«data».now a.pending.now a.breakpoints.now) a.place.region _ (sym c.in_ok-check_layouts.ensures)).descriptors_good (sym (repeat_is (goal.at.check_names-requires c).After-first_repeat) ∙ e))

pub returns-in_err-check_names : goal.returns-in_err-check_names
returns-in_err-check_names c =
    let p = err_from_is_err_and _ c.from_residual-in_err-check_names.ensures.1 in
    p.1 ∙ ap Err p.2
    ∙ sym (by_each (call (goal.at.returns-in_err-check_names c).After-check_layouts) _ _ _ _ _ (sym c.in_ok-check_layouts.ensures)
    (verdict (layout_verdict 6) c.first_bad_label.ensures c.in_ok-check_layout.ensures) (verdict (layout_verdict 7) (layout_is (goal.at.returns-in_err-check_names c).After-check_uses-uses) c.in_ok-check_layout-2.ensures)
    (verdict (name_verdict 2) (repeat_is (goal.at.returns-in_err-check_names c).After-first_repeat) c.in_err-check_names.ensures) refl)

pub check_names-requires-2 : goal.check_names-requires-2
check_names-requires-2 c p e =
    omega (arith, repeat_place _ p (sym c.first_bad_label.ensures ∙ layout_pass 6 _ (sym c.in_ok-check_layout.ensures)) (sym c.check_uses-uses.ensures.1 ∙ e))

pub returns : goal.returns
returns c =
    sym (by_each (call (goal.at.returns c).After-check_layouts) _ _ _ _ _ (sym c.in_ok-check_layouts.ensures)
    (verdict (layout_verdict 6) c.first_bad_label.ensures c.in_ok-check_layout.ensures) (verdict (layout_verdict 7) (layout_is (goal.at.returns c).After-check_uses-uses) c.in_ok-check_layout-2.ensures)
    (verdict (name_verdict 2) (repeat_is (goal.at.returns c).After-first_repeat) c.in_ok-check_names.ensures) (verdict (name_verdict 6) c.check_uses-uses.ensures.1 c.check_names-2.ensures))
