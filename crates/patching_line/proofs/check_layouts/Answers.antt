-- Names the first list that breaks its layout, with a place of at most 65,536.
use Rattle.std.specs.Prelude.{Err, None, Ok, Option}
use Rattle.std.proofs.Common.{◌≡◌, ℕ, List, refl, sym, ap, ◌∙◌, arith}
use Rattle.std.proofs.lemmas.Result.{err_from_is_err_and}
use Rattle.refusal.specs.Verdicts.{layout_verdict}
use Rattle.refusal.proofs.VerdictsLaws.{layout_pass, verdict}
use Rattle.pending.specs.Pendings.{pending_layout}
use Rattle.breakpoints.specs.Breakpoints.{filled_layout}
use Rattle.emit_checks.proofs.PlacesLaws.{breakpoint_place}
use Rattle.patching_outcome.specs.declared.PatchCounts.{PatchCounts}
use Rattle.patching_outcome.specs.Patching.{has_patched, filled_pendings}
use Rattle.patching_checks.proofs.PlacesLaws.{pendings_place}
use Rattle.patching_line.specs.Lists.{listed_in}
use Rattle.patching_line.proofs.ListedLaws.{listed_place, listed_good}
use Rattle.patching_line.proofs.ListsLaws.{stops_are}
use Rattle.patching_line.proofs.check_layouts.Goals as goal

-- The pendings' layout, with the count of the regions put in.
pendings_are : (pending : List ℕ) (counts : PatchCounts) {regions n : ℕ} {l : Option ℕ}
    → l ≡ filled_layout counts.pending pending (has_patched counts.patches (filled_pendings pending counts) (pending_layout n (filled_pendings pending counts))) → n ≡ regions
    → l ≡ filled_layout counts.pending pending (has_patched counts.patches (filled_pendings pending counts) (pending_layout regions (filled_pendings pending counts)))
pendings_are pending counts e k =
    e ∙ ap (λ (m : ℕ). filled_layout counts.pending pending (has_patched counts.patches (filled_pendings pending counts) (pending_layout m (filled_pendings pending counts)))) k

-- A region list that passes keeps its layout.
listed_passed : (region fill : ℕ) (s : List ℕ) {bad : Option ℕ} → bad ≡ listed_in region fill s → Ok tt ≡ layout_verdict 3 bad → listed_in region fill s ≡ None
listed_passed region fill s e f = layout_pass 3 (listed_in region fill s) (verdict (layout_verdict 3) e f)

pub returns-in_err-check_line_lists : goal.returns-in_err-check_line_lists
returns-in_err-check_line_lists c position kept =
    let p = err_from_is_err_and _ c.from_residual.ensures.1 in
    stops_are _ _ _ _ _ _ _ _ (sym c.in_err-check_line_lists.ensures) refl refl refl position kept ∙ sym (p.1 ∙ ap Err p.2)

pub check_layout-requires : goal.check_layout-requires
check_layout-requires c p e = omega (arith, listed_place c.args.line.region c.args.counts.regions c.args.regions.now p (sym c.check_listed.ensures ∙ e))

pub returns-in_err-check_layout : goal.returns-in_err-check_layout
returns-in_err-check_layout c position kept =
    let p = err_from_is_err_and _ c.from_residual-in_err-check_layout.ensures.1 in
    stops_are _ _ _ _ _ _ _ _ (sym c.in_ok-check_line_lists.ensures) (verdict (layout_verdict 3) c.check_listed.ensures c.in_err-check_layout.ensures) refl refl position kept
    ∙ sym (p.1 ∙ ap Err p.2)

pub slice_bounds-new-end : goal.slice_bounds-new-end
slice_bounds-new-end c =
    omega (arith, listed_good c.args.line.region c.args.counts.regions c.args.regions.now (listed_passed c.args.line.region c.args.counts.regions c.args.regions.now c.check_listed.ensures c.in_ok-check_layout.ensures))

pub new-requires : goal.new-requires
new-requires c = (listed_good c.args.line.region c.args.counts.regions c.args.regions.now (listed_passed c.args.line.region c.args.counts.regions c.args.regions.now c.check_listed.ensures c.in_ok-check_layout.ensures)).1

pub check_layout-requires-2 : goal.check_layout-requires-2
check_layout-requires-2 c p e = omega (arith, pendings_place _ _ _ _ p (sym c.check_pendings-bad.ensures ∙ e))

pub returns-in_err-check_layout-2 : goal.returns-in_err-check_layout-2
returns-in_err-check_layout-2 c position kept =
    let p = err_from_is_err_and _ c.from_residual-in_err-check_layout-2.ensures.1 in
    stops_are _ _ _ _ _ _ _ _ (sym c.in_ok-check_line_lists.ensures) (verdict (layout_verdict 3) c.check_listed.ensures c.in_ok-check_layout.ensures) (verdict (layout_verdict 4) (pendings_are c.args.pending.now c.args.counts c.check_pendings-bad.ensures (rw c.new.ensures at c.count-count.ensures.0)) c.in_err-check_layout-2.ensures) refl position kept
    ∙ sym (p.1 ∙ ap Err p.2)

pub check_layout-requires-3 : goal.check_layout-requires-3
check_layout-requires-3 c p e = omega (arith, breakpoint_place _ _ p (sym c.check_breakpoint_buffer.ensures ∙ e))

pub returns : goal.returns
returns c = stops_are _ _ _ _ _ _ _ _ (sym c.in_ok-check_line_lists.ensures) (verdict (layout_verdict 3) c.check_listed.ensures c.in_ok-check_layout.ensures) (verdict (layout_verdict 4) (pendings_are c.args.pending.now c.args.counts c.check_pendings-bad.ensures (rw c.new.ensures at c.count-count.ensures.0)) c.in_ok-check_layout-2.ensures) (verdict (layout_verdict 5) c.check_breakpoint_buffer.ensures c.check_layout-3.ensures)
