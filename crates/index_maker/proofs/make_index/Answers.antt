use Rattle.std.specs.Prelude.{◌≡◌, ℕ, List, Err, Ok, Result}
use Rattle.std.proofs.Common.{refl, sym, ap, ap₂, ◌∙◌, take, arith, length-take, length-take-le}
use Rattle.std.proofs.lemmas.Result.{err_from_is_err_and}
use Rattle.refusal.specs.declared.Refusal.{Refusal}
use Rattle.refusal.specs.Verdicts.{and_then, name_verdict, Verdict}
use Rattle.labels.specs.Labels.{label_repeat}
use Rattle.labels.proofs.LabelsLaws.{repeat_place}
use Rattle.breakpoints.proofs.BreakpointsLaws.{pending_buffer_good}
use Rattle.label_uses.specs.UseBytes.{index_of}
use Rattle.indexed_outcome.specs.Make.{make_layouts, make_outcome, make_by, made_of, room_for}
use Rattle.indexed_outcome.proofs.MakeLaws.{layouts_good, outcome_by}
use Rattle.index_maker.proofs.make_index.Goals as goal
use Rattle.index_maker.proofs.make_index.Goals.{After-first_repeat}

-- If the layouts are kept, the labels' names decide, and then the room.
by_names : (fill : ℕ) (pending labels index : List ℕ) (v : Verdict) → make_layouts fill pending labels index ≡ Ok tt → name_verdict 1 (label_repeat labels) ≡ v
    → let new = index_of labels (take fill pending) in make_outcome fill pending labels index ≡ make_by (and_then v (room_for new index)) new index
by_names fill pending labels index v e f =
    let new = index_of labels (take fill pending) in
    outcome_by fill pending labels index (Ok tt) _ e refl ∙ ap (λ (x : Verdict). make_by (and_then x (room_for new index)) new index) f

pub returns-in_err-check_layouts : goal.returns-in_err-check_layouts
returns-in_err-check_layouts c =
    let a = c.args in
    let p = err_from_is_err_and _ c.from_residual.ensures.1 in
    outcome_by _ _ _ _ (Err _) _ (sym c.in_err-check_layouts.ensures) refl ∙ ap (λ (r : Result ℕ Refusal). made_of r a.index.now) (sym (p.1 ∙ ap Err p.2))

pub make-labels-requires-clause-labels_value : goal.make-labels-requires-clause-labels_value
make-labels-requires-clause-labels_value c = (layouts_good _ _ _ _ (sym c.in_ok-check_layouts.ensures)).labels_good

repeat_is : (c : After-first_repeat) → c.first_repeat.result ≡ label_repeat c.args.labels.now
repeat_is c = c.first_repeat.ensures ∙ ap label_repeat c.make-labels.ensures

pub check_names-requires : goal.check_names-requires
check_names-requires c p e =
    omega (arith, repeat_place _ p (layouts_good _ _ _ _ (sym c.in_ok-check_layouts.ensures)).labels_good (sym (repeat_is (goal.at.check_names-requires c).After-first_repeat) ∙ e))

pub returns-in_err-check_names : goal.returns-in_err-check_names
returns-in_err-check_names c =
    let a = c.args in
    let p = err_from_is_err_and _ c.from_residual-in_err-check_names.ensures.1 in
    by_names a.fill a.pending.now a.labels.now a.index.now _ (sym c.in_ok-check_layouts.ensures) (ap (name_verdict 1) (sym (repeat_is (goal.at.returns-in_err-check_names c).After-first_repeat)) ∙ sym c.in_err-check_names.ensures)
    ∙ ap (λ (r : Result ℕ Refusal). made_of r a.index.now) (sym (p.1 ∙ ap Err p.2))

pub slice_bounds-new-end : goal.slice_bounds-new-end
slice_bounds-new-end c = sym (length-take-le _ _ (pending_buffer_good _ _ (layouts_good _ _ _ _ (sym c.in_ok-check_layouts.ensures)).pending_good).1)

pub new-requires : goal.new-requires
new-requires c =
    let p = pending_buffer_good c.args.fill c.args.pending.now (layouts_good _ _ _ _ (sym c.in_ok-check_layouts.ensures)).pending_good in
    (p.2, omega (arith, p.0, length-take c.args.fill c.args.pending.now))

pub fill_or_refuse-requires : goal.fill_or_refuse-requires
fill_or_refuse-requires c = (layouts_good _ _ _ _ (sym c.in_ok-check_layouts.ensures)).index_short

pub returns : goal.returns
returns c =
    let a = c.args in
    by_names a.fill a.pending.now a.labels.now a.index.now _ (sym c.in_ok-check_layouts.ensures) (ap (name_verdict 1) (sym (repeat_is (goal.at.returns c).After-first_repeat)) ∙ sym c.in_ok-check_names.ensures)
    ∙ sym (ap₂ (λ (labels pending : List ℕ). make_by (room_for (index_of labels pending) a.index.now) (index_of labels pending) a.index.now) c.make-labels.ensures c.new.ensures)
    ∙ c.fill_or_refuse.ensures
