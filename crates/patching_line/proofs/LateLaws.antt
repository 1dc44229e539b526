-- Whether a line is late: the caller's record and the pending patched last decide. 29 stands in for 10. Assumes nothing.
use Rattle.std.specs.Prelude.{ℕ, ◌-◌, ◌≤◌, ◌<◌, Bool, true, false, ◌&&◌, ◌||◌, not, List, [], ◌≡◌, get_or, ltb, eqb}
use Rattle.std.proofs.Common.{arith, sym, ap, ◌∙◌, get_or-take, lt-ltb, le-ltb, eq-eqb, ne_eqb}
use Rattle.refusal.specs.declared.Refusal.{Refusal}
use Rattle.refusal.specs.declared.Refusal.TheVariants.{LateLine}
use Rattle.refusal.specs.declared.Numbered.{Numbered}
use Rattle.refusal.specs.Numbers.{numbered}
use Rattle.regions.specs.Regions.{region_count}
use Rattle.regions.proofs.RegionsLaws.{region_good}
use Rattle.pending.specs.declared.Pending.{Pending}
use Rattle.pending.specs.Pendings.{region_of, pending_at, PendingIs}
use Rattle.build_outcome.specs.Build.{patch_order}
use Rattle.binary_builder.specs.Steps.{most_pendings, Ordered, InPatchOrder}
use Rattle.binary_builder.proofs.OrderLaws.{order_count, pendings_few, order_pending}
use Rattle.patching_outcome.specs.declared.PatchCounts.{PatchCounts}
use Rattle.patching_outcome.specs.Patching.{patching_of, filled_regions, filled_pendings}
use Rattle.patching_outcome.specs.Line.{is_below, is_late, late_refusal}
use Rattle.patching_line.specs.Lists.{LineLists}

module _ (regions pending : List ℕ) (counts : PatchCounts) (region : ℕ) where
  pub late_stopped : (counts.state ≡ 0 → ⊥) → is_late (patching_of regions pending [] [] counts) region ≡ true
  late_stopped h = ap (λ (b : Bool). not b || is_below (patching_of regions pending [] [] counts) region) (ne_eqb counts.state 0 h)

  running : counts.state ≡ 0 → is_late (patching_of regions pending [] [] counts) region ≡ is_below (patching_of regions pending [] [] counts) region
  running s = ap (λ (b : Bool). not b || is_below (patching_of regions pending [] [] counts) region) (eq-eqb counts.state 0 s)

  pub none_patched : counts.state ≡ 0 → counts.patches ≡ 0 → is_late (patching_of regions pending [] [] counts) region ≡ false
  none_patched s h =
      running s
      ∙ ap (λ (b : Bool). b && ltb region (region_of (filled_pendings pending counts) (get_or (patch_order (filled_regions regions counts) (filled_pendings pending counts)) (counts.patches - 1) 0)))
      (le-ltb 0 counts.patches (omega arith))

  module _ (lists : LineLists regions pending counts) (some : 0 < counts.patches) (n : ℕ) (order : List ℕ) (in_order : InPatchOrder (filled_pendings pending counts) n order) where
    abbrev ps : List ℕ
    ps = patch_order (filled_regions regions counts) (filled_pendings pending counts)

    ordered : Ordered (patch_order (filled_regions regions counts) (filled_pendings pending counts)) n order
    ordered = in_order (region_count (filled_regions regions counts)) (region_good (filled_regions regions counts) lists.regions_good).3 lists.pending_good

    -- the last one patched is in the list
    pub last_in : (counts.patches - 1 < n) × (n ≤ most_pendings)
    last_in =
        let r = filled_regions regions counts in
        let s = filled_pendings pending counts in
        let c = order_count (region_count r) (region_good r lists.regions_good).3 s lists.pending_good in
        let f = pendings_few (region_count r) s lists.pending_good in
        (omega (arith, ordered.count, c, lists.patched), omega (arith, ordered.count, c, f))

    pub last_is : get_or order (counts.patches - 1) 0 ≡ get_or (patch_order (filled_regions regions counts) (filled_pendings pending counts)) (counts.patches - 1) 0
    last_is = sym (get_or-take n order (counts.patches - 1) 0 last_in.0) ∙ ap (λ (l : List ℕ). get_or l (counts.patches - 1) 0) ordered.places_are

    pub last_pending : PendingIs (filled_pendings pending counts) (get_or order (counts.patches - 1) 0)
    last_pending = rw last_is (order_pending (filled_regions regions counts) (filled_pendings pending counts) lists.pending_good (counts.patches - 1) (omega (arith, ordered.count, last_in)))

    pub late_by : counts.state ≡ 0 → (patch : Pending) → patch ≡ pending_at (filled_pendings pending counts) (get_or order (counts.patches - 1) 0)
        → ltb region patch.region ≡ is_late (patching_of regions pending [] [] counts) region
    late_by s patch e =
        let f = filled_pendings pending counts in
        ap (ltb region) (ap (λ (x : Pending). x.region) e ∙ ap (region_of f) last_is)
        ∙ sym (running s ∙ ap (λ (b : Bool). b && ltb region (region_of f (get_or ps (counts.patches - 1) 0))) (lt-ltb 0 counts.patches some))

-- ---- 29 in place of 10
module _ (r : Refusal) (n : Numbered) (e : n ≡ numbered r) where
  by_number : (b : Bool) → eqb (numbered r).number 10 ≡ b → late_refusal r ≡ elim b [ true ↦ LateLine (numbered r).location | false ↦ r ]
  by_number b h = ap (λ (x : Bool). elim x [ true ↦ LateLine (numbered r).location | false ↦ r ]) h

  pub late_ten : n.number ≡ 10 → LateLine n.location ≡ late_refusal r
  late_ten h =
      ap (λ (x : Numbered). LateLine x.location) e
      ∙ sym (by_number true (eq-eqb (numbered r).number 10 (sym (ap (λ (x : Numbered). x.number) e) ∙ h)))

  pub late_other : (n.number ≡ 10 → ⊥) → r ≡ late_refusal r
  late_other h = sym (by_number false (ne_eqb (numbered r).number 10 (λ k. h (ap (λ (x : Numbered). x.number) e ∙ k))))
