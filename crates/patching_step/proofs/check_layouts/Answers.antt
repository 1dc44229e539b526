-- Names the first list that breaks its layout, with a place of at most 65,536.
use Rattle.std.specs.Prelude.{◌≡◌, ℕ, List, Err, None, Ok, Option}
use Rattle.std.proofs.Common.{refl, sym, ap, ◌∙◌, arith, length-take}
use Rattle.std.proofs.lemmas.Result.{err_from_is_err_and}
use Rattle.labels.proofs.LabelsLaws.{label_place_lem}
use Rattle.pending.specs.Pendings.{pending_layout}
use Rattle.refusal.specs.Verdicts.{layout_verdict}
use Rattle.refusal.proofs.VerdictsLaws.{layout_pass, verdict}
use Rattle.breakpoints.specs.Breakpoints.{filled_layout}
use Rattle.breakpoints.proofs.BreakpointsLaws.{filled_good}
use Rattle.binary_builder.proofs.PlacesLaws.{entry_place}
use Rattle.patching_outcome.specs.declared.PatchCounts.{PatchCounts}
use Rattle.patching_outcome.specs.Patching.{has_patched, filled_pendings}
use Rattle.patching_checks.proofs.PlacesLaws.{regions_place, pendings_place, kept_place}
use Rattle.patching_step.proofs.StepLaws.{patched_layout, layouts_are}
use Rattle.patching_step.proofs.check_layouts.Goals as goal

-- A list that passes keeps its layout.
passed : (buffer : ℕ) {bad layout : Option ℕ} → layout ≡ bad → layout_verdict buffer bad ≡ Ok tt → layout ≡ None
passed buffer e f = e ∙ layout_pass buffer _ f

-- The pendings' layout, with the count of the regions put in.
pendings_are : (pending : List ℕ) (counts : PatchCounts) (regions n : ℕ) {l : Option ℕ}
    → l ≡ filled_layout counts.pending pending (has_patched counts.patches (filled_pendings pending counts) (pending_layout n (filled_pendings pending counts))) → n ≡ regions
    → l ≡ filled_layout counts.pending pending (has_patched counts.patches (filled_pendings pending counts) (pending_layout regions (filled_pendings pending counts)))
pendings_are pending counts regions n e k =
    e ∙ ap (λ (m : ℕ). filled_layout counts.pending pending (has_patched counts.patches (filled_pendings pending counts) (pending_layout m (filled_pendings pending counts)))) k

pub check_layout-requires : goal.check_layout-requires
check_layout-requires c p e = omega (arith, label_place_lem _ p (sym c.first_bad_label.ensures ∙ e))

pub returns-in_err-check_layout : goal.returns-in_err-check_layout
returns-in_err-check_layout c breakpoints =
    let p = err_from_is_err_and _ c.from_residual.ensures.1 in
    layouts_are _ _ _ _ _ _ (verdict (layout_verdict 0) c.first_bad_label.ensures c.in_err-check_layout.ensures) refl refl refl refl breakpoints ∙ sym (p.1 ∙ ap Err p.2)

pub check_layout-requires-2 : goal.check_layout-requires-2
check_layout-requires-2 c p e = omega (arith, entry_place _ p (sym c.first_bad_entry.ensures ∙ e))

pub returns-in_err-check_layout-2 : goal.returns-in_err-check_layout-2
returns-in_err-check_layout-2 c breakpoints =
    let p = err_from_is_err_and _ c.from_residual-in_err-check_layout-2.ensures.1 in
    layouts_are _ _ _ _ _ _ (verdict (layout_verdict 0) c.first_bad_label.ensures c.in_ok-check_layout.ensures) (verdict (layout_verdict 1) c.first_bad_entry.ensures c.in_err-check_layout-2.ensures) refl refl refl breakpoints
    ∙ sym (p.1 ∙ ap Err p.2)

pub check_layout-requires-3 : goal.check_layout-requires-3
check_layout-requires-3 c p e = omega (arith, regions_place _ _ p (sym c.check_regions.ensures ∙ e))

pub returns-in_err-check_layout-3 : goal.returns-in_err-check_layout-3
returns-in_err-check_layout-3 c breakpoints =
    let p = err_from_is_err_and _ c.from_residual-in_err-check_layout-3.ensures.1 in
    layouts_are _ _ _ _ _ _ (verdict (layout_verdict 0) c.first_bad_label.ensures c.in_ok-check_layout.ensures) (verdict (layout_verdict 1) c.first_bad_entry.ensures c.in_ok-check_layout-2.ensures)
    (verdict (layout_verdict 2) c.check_regions.ensures c.in_err-check_layout-3.ensures) refl refl breakpoints
    ∙ sym (p.1 ∙ ap Err p.2)

pub slice_bounds-new-end : goal.slice_bounds-new-end
slice_bounds-new-end c =
    omega (arith, filled_good c.args.counts.regions c.args.regions.now _ (passed 2 (sym c.check_regions.ensures) (sym c.in_ok-check_layout-3.ensures)), length-take {A = ℕ})

pub new-requires : goal.new-requires
new-requires c = (filled_good c.args.counts.regions c.args.regions.now _ (passed 2 (sym c.check_regions.ensures) (sym c.in_ok-check_layout-3.ensures))).2

pub check_layout-requires-4 : goal.check_layout-requires-4
check_layout-requires-4 c p e = omega (arith, pendings_place _ _ _ _ p (sym c.check_pendings.ensures ∙ e))

pub returns-in_err-check_layout-4 : goal.returns-in_err-check_layout-4
returns-in_err-check_layout-4 c breakpoints =
    let p = err_from_is_err_and _ c.from_residual-in_err-check_layout-4.ensures.1 in
    layouts_are _ _ _ _ _ _ (verdict (layout_verdict 0) c.first_bad_label.ensures c.in_ok-check_layout.ensures) (verdict (layout_verdict 1) c.first_bad_entry.ensures c.in_ok-check_layout-2.ensures)
    (verdict (layout_verdict 2) c.check_regions.ensures c.in_ok-check_layout-3.ensures)
    (verdict (layout_verdict 3) (pendings_are c.args.pending.now c.args.counts _ _ c.check_pendings.ensures (rw c.new.ensures at c.count-count.ensures.0)) c.in_err-check_layout-4.ensures) refl breakpoints
    ∙ sym (p.1 ∙ ap Err p.2)

pub slice_bounds-check_kept-end : goal.slice_bounds-check_kept-end
slice_bounds-check_kept-end c =
    omega (arith, filled_good c.args.counts.pending c.args.pending.now _ (passed 3 (sym c.check_pendings.ensures) (sym c.in_ok-check_layout-4.ensures)), length-take {A = ℕ})

pub check_kept-requires : goal.check_kept-requires
check_kept-requires c =
    let f = filled_good c.args.counts.pending c.args.pending.now _ (passed 3 (sym c.check_pendings.ensures) (sym c.in_ok-check_layout-4.ensures)) in
    record { regions = _; kept = patched_layout c.args.counts.patches (filled_pendings c.args.pending.now c.args.counts) _ f.2 }

pub check_layout-requires-5 : goal.check_layout-requires-5
check_layout-requires-5 c p e = omega (arith, kept_place _ _ p (sym c.check_kept.ensures ∙ e))

pub returns : goal.returns
returns c =
    layouts_are _ _ _ _ _ _ (verdict (layout_verdict 0) c.first_bad_label.ensures c.in_ok-check_layout.ensures) (verdict (layout_verdict 1) c.first_bad_entry.ensures c.in_ok-check_layout-2.ensures)
    (verdict (layout_verdict 2) c.check_regions.ensures c.in_ok-check_layout-3.ensures)
    (verdict (layout_verdict 3) (pendings_are c.args.pending.now c.args.counts _ _ c.check_pendings.ensures (rw c.new.ensures at c.count-count.ensures.0)) c.in_ok-check_layout-4.ensures)
    (verdict (layout_verdict 4) c.check_kept.ensures c.check_layout-5.ensures)
