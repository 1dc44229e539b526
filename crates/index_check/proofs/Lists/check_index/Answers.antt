use Rattle.std.specs.Bool.{then_some}
use Rattle.std.specs.Prelude.{ℕ, Bool, true, false, not, None, Some, ◌≡◌}
use Rattle.std.proofs.Common.{◌≤◌, length, refl, sym, ◌∙◌, arith, length-take-le}
use Rattle.record.specs.Records.{limit}
use Rattle.breakpoints.proofs.BreakpointsLaws.{filled_good, filled_bad}
use Rattle.label_uses.specs.UseBytes.{index_layout}
use Rattle.label_uses.proofs.IndexLaws.{layout_by}
use Rattle.index_check.proofs.Lists.check_index.Goals as goal
use Rattle.index_check.proofs.Lists.check_index.Goals.{In_default}

-- the buffer is within the limit, and the fill count within the buffer
kept : (c : In_default) → (length c.args.index.now ≤ limit) × (c.args.fill ≤ length c.args.index.now)
kept c = let k = filled_good c.args.fill c.args.index.now None (sym c.filled.ensures ∙ c.in_default.is) in (k.0, k.1)

pub returns-in-Some : goal.returns-in-Some
unfolding index_layout
returns-in-Some c = sym (filled_bad c.args.fill c.args.index.now _ _ (sym c.filled.ensures ∙ c.in-Some.is))

pub slice_bounds-is_index-end : goal.slice_bounds-is_index-end
slice_bounds-is_index-end c = sym (length-take-le c.args.fill c.args.index.now (kept (goal.at.slice_bounds-is_index-end c).In_default).1)

pub is_index-requires : goal.is_index-requires
is_index-requires c =
    let k = kept (goal.at.is_index-requires c).In_default in
    omega (arith, k.0, k.1, length-take-le c.args.fill c.args.index.now k.1)

-- Place 0 is named if the bytes are no index.
unless : (b : Bool) → then_some {T = ℕ} (not b) 0 ≡ elim b [ true ↦ None | false ↦ Some 0 ]
unless true = refl
unless false = refl

pub returns : goal.returns
returns c =
    let v = c.args.self.now in
    let k = kept (goal.at.returns c).In_default in
    c.then_some.ensures ∙ unless c.is_index.result ∙ sym (layout_by v.labels v.pending c.args.fill c.args.index.now k.0 k.1 (sym c.is_index.ensures))
