-- The next pending, by its record, region and destination: refused and all put back, or written with its bytes kept. Assumes nothing.
use Rattle.std.specs.Prelude.{ℕ, ◌+◌, ◌*◌, ◌≤◌, ◌<◌, Bool, true, false, List, ◌≡◌, refl, length, get_or, take, leb, Err, None, Ok, Option}
use Rattle.std.proofs.Common.{arith, sym, ◌∙◌, length-take-le, get_or-take, leb-true}
use Rattle.std.proofs.Math.Path.{ap, ap₂}
use Rattle.jobs.specs.declared.Job.{Job}
use Rattle.record.specs.Bytes.{part}
use Rattle.record.specs.Stores.{append}
use Rattle.refusal.specs.declared.Refusal.{Refusal}
use Rattle.refusal.specs.declared.Refusal.TheVariants.{PatchPastEnd}
use Rattle.labels.specs.Labels.{Table}
use Rattle.regions.specs.declared.Region.{Region}
use Rattle.regions.specs.Regions.{region_layout, region_count, region_place, region_at}
use Rattle.regions.proofs.RegionsLaws.{region_good, region_within}
use Rattle.pending.specs.Pendings.{pending_at}
use Rattle.pending.specs.declared.Pending.{Pending}
use Rattle.patch.specs.Patches.{destination, region_for, slot_of, pc_of, reach_verdict, patch_stop, write_word, write_pending}
use Rattle.patch.proofs.PatchesLaws.{verdict_is}
use Rattle.build_outcome.specs.Build.{patch_verdict}
use Rattle.binary_builder.specs.Steps.{most_pendings}
use Rattle.binary_builder.proofs.OrderLaws.{order_count, order_pending, order_region, pendings_few}
use Rattle.patching_outcome.specs.declared.PatchCounts.{PatchCounts}
use Rattle.patching_outcome.specs.declared.Progress.TheVariants.{Patched}
use Rattle.patching_outcome.specs.Patching.{patching_of, filled_regions, filled_pendings}
use Rattle.patching_outcome.specs.Step.{now_at, put_back, next_by}
use Rattle.patching_outcome.specs.Contract.{StepsTo}
use Rattle.patching_step.specs.Undo.{PatchAt, PatchesAt}
use Rattle.patching_step.specs.Steps.{StepLists, InOrder, next_at}
use Rattle.refusal.specs.Verdicts.{Verdict}

-- A patch that passes ends within its region's data.
stop_inside : (job : Job) (g : Region) (q : Pending) (address : Option ℕ) → patch_stop job g q address ≡ Ok tt → q.offset + 4 ≤ g.size
stop_inside job g q address e = go (leb (q.offset + 4) g.size) refl e
  where
    go : (b : Bool) → leb (q.offset + 4) g.size ≡ b
        → ◌≡◌ {A = Verdict} (elim b [ true ↦ reach_verdict job q (pc_of g q) address | false ↦ Err (PatchPastEnd q.location) ]) (Ok tt) → q.offset + 4 ≤ g.size
    go true b x = leb-true (q.offset + 4) g.size b
    go false b x = let z : ◌≡◌ {A = ℕ} 0 1 = cc in absurd (omega arith)

-- ---- the pendings in patch order
module _ (regions pending kept : List ℕ) (counts : PatchCounts) (lists : StepLists regions pending kept counts) (order : List ℕ) (in_order : InOrder regions pending counts order) where
  order_long : length order ≤ most_pendings
  order_long =
      let n = region_count (filled_regions regions counts) in
      let p = filled_pendings pending counts in
      omega (arith, ap length in_order, order_count n (region_good (filled_regions regions counts) lists.lists.regions_filled.good).3 p lists.lists.pending_good, pendings_few n p lists.lists.pending_good)

  pub order_short : (length order ≤ most_pendings) × (4 * length order ≤ length kept)
  order_short =
      let n = region_count (filled_regions regions counts) in
      let p = filled_pendings pending counts in
      (order_long, omega (arith, ap length in_order, order_count n (region_good (filled_regions regions counts) lists.lists.regions_filled.good).3 p lists.lists.pending_good, lists.kept_room))

  pub patch_at : (i : ℕ) → i < length order → PatchAt (filled_regions regions counts) (filled_pendings pending counts) (get_or order i 0)
  patch_at i h =
      rw in_order
      (record {
        pending_is = order_pending (filled_regions regions counts) (filled_pendings pending counts) lists.lists.pending_good i (rw (← in_order) h);
        region_is = order_region (filled_regions regions counts) (filled_pendings pending counts) lists.lists.pending_good i (rw (← in_order) h);
      })

  -- The first n of them, with their kept words.
  pub patches_at : (n : ℕ) → n ≤ length order → PatchesAt (filled_regions regions counts) (filled_pendings pending counts) (take n order) kept
  patches_at n h =
      let l = length-take-le n order h in
      record {
        each = λ i k. let e = get_or-take n order i 0 (omega (arith, l)) in rw e (patch_at i (omega (arith, l)));
        room = omega (arith, l, order_short.1);
      }

-- ---- the next pending, with its record, region and destination given
module _ (job : Job) (labels : Table) (regions pending kept : List ℕ) (counts : PatchCounts) (at : ℕ) (q : Pending) (g : Region) (address : Option ℕ)
    (read : q ≡ pending_at (filled_pendings pending counts) at)
    (numbered : g ≡ region_at (filled_regions regions counts) (region_place (filled_regions regions counts) q.region))
    (reached : address ≡ destination labels (filled_pendings pending counts) q.label) where
  region_for_lem : g ≡ region_for (filled_regions regions counts) (pending_at (filled_pendings pending counts) at)
  region_for_lem = numbered ∙ ap (λ (x : Pending). region_for (filled_regions regions counts) x) read

  address_is : destination labels (filled_pendings pending counts) (pending_at (filled_pendings pending counts) at).label ≡ address
  address_is = sym (reached ∙ ap (λ (x : Pending). destination labels (filled_pendings pending counts) x.label) read)

  verdict : (v : Verdict) → v ≡ patch_stop job g q address → patch_verdict job labels (filled_regions regions counts) (filled_pendings pending counts) at ≡ v
  verdict v e =
      verdict_is job labels (filled_pendings pending counts) (region_for (filled_regions regions counts) (pending_at (filled_pendings pending counts) at)) (pending_at (filled_pendings pending counts) at) address address_is
      ∙ sym (e ∙ ap₂ (λ (x : Region) (y : Pending). patch_stop job x y address) region_for_lem read)

  slot_is : g.start + q.offset ≡ slot_of (filled_regions regions counts) (pending_at (filled_pendings pending counts) at)
  slot_is = ap₂ (λ (x : Region) (y : Pending). x.start + y.offset) region_for_lem read

  word : (d : List ℕ) → write_word g q address d ≡ write_pending labels (filled_pendings pending counts) (region_for (filled_regions regions counts) (pending_at (filled_pendings pending counts) at)) (pending_at (filled_pendings pending counts) at) d
  unfolding write_pending
  word d =
      ap₂ (λ (x : Region) (y : Pending). write_word x y address d) region_for_lem read
      ∙ ap (λ (a : Option ℕ). write_word (region_for (filled_regions regions counts) (pending_at (filled_pendings pending counts) at)) (pending_at (filled_pendings pending counts) at) a d) (sym address_is)

  -- A patch that passes ends within the list.
  pub next_inside : PatchAt (filled_regions regions counts) (filled_pendings pending counts) at → region_layout (filled_regions regions counts) ≡ None
      → (v : Verdict) → v ≡ patch_stop job g q address → v ≡ Ok tt → g.start + q.offset + 4 ≤ length (filled_regions regions counts)
  next_inside a good v e s =
      let w = region_within (filled_regions regions counts) q.region good (rw read a.region_is) in
      let h = stop_inside job g q address (sym e ∙ s) in
      omega (arith, w, h, ap (λ (x : Region). x.start) numbered, ap (λ (x : Region). x.size) numbered)

  module _ (order : List ℕ) (in_order : InOrder regions pending counts order) where
    pub next_stops : (r : Refusal) (v : Verdict) → v ≡ patch_stop job g q address → v ≡ Err r
        → (d : List ℕ) → d ≡ put_back (filled_regions regions counts) (filled_pendings pending counts) kept 0 (take counts.patches order) regions
        → (c : PatchCounts) → c ≡ now_at counts 0 2
        → StepsTo (next_at job labels at) regions pending kept counts (Err r) c d kept
    next_stops r v e s d put c now breakpoints =
        let p = patching_of regions pending breakpoints kept counts in
        ap (next_by labels p at) (verdict v e ∙ s)
        ∙ ap₂ (λ (x : List ℕ) (y : PatchCounts). record { answer = Err r; after = patching_of x pending breakpoints kept y })
        (sym (put ∙ ap (λ (l : List ℕ). put_back (filled_regions regions counts) (filled_pendings pending counts) kept 0 (take counts.patches l) regions) in_order)) (sym now)

  pub next_passes : (v : Verdict) → v ≡ patch_stop job g q address → v ≡ Ok tt
      → (d : List ℕ) → d ≡ write_word g q address regions
      → (k : List ℕ) → k ≡ append kept (4 * counts.patches) (part regions (g.start + q.offset) 4)
      → (c : PatchCounts) → c ≡ now_at counts (counts.patches + 1) counts.state
      → StepsTo (next_at job labels at) regions pending kept counts (Ok (Patched (counts.patches + 1))) c d k
  next_passes v e s d written k stored c now breakpoints =
      let p = patching_of regions pending breakpoints kept counts in
      let d_is = written ∙ word regions in
      let k_is = stored ∙ ap (λ (i : ℕ). append kept (4 * counts.patches) (part regions i 4)) slot_is in
      ap (next_by labels p at) (verdict v e ∙ s) ∙ cc (d_is, k_is, now)
