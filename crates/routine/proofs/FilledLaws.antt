-- Laws of a buffer that bytes were appended to: its length, its filled part and its layout; and of a region number that is selected. Assumes nothing.
use Rattle.std.specs.Prelude.{ℕ, ◌+◌, ◌≤◌, ◌<◌, ◌≡◌, refl, List, ◌++◌, Bool, true, false, length, take, leb, eqb, None}
use Rattle.std.proofs.Common.{arith, ◌∙◌, length-append, length-drop, leb-true}
use Rattle.std.proofs.Math.ListN.{length-take}
use Rattle.record.specs.Records.{places, first_bad, limit}
use Rattle.record.proofs.RecordsLaws.{limit_kept}
use Rattle.record.specs.Stores.{append, filled_with}
use Rattle.record.proofs.StoresLaws.{filled_append}
use Rattle.pending.specs.Pendings.{pending_ok, pending_layout}
use Rattle.breakpoints.specs.Breakpoints.{region_number_ok, data_buffer_layout, pending_buffer_layout, breakpoint_buffer_layout, breakpoint_ok}
use Rattle.breakpoints.proofs.BreakpointsLaws.{filled_kept, data_layout}

-- ---- bytes appended where there is room for them
module _ (d : List ℕ) (fill : ℕ) (bs : List ℕ) (room : fill + length bs ≤ length d) where
  same_length : length (append d fill bs) ≡ length d
  unfolding append
  same_length = simp (length-append, length-take, length-drop) (omega arith)

  pub still_short : length d ≤ limit → length (append d fill bs) ≤ limit
  still_short h = omega (arith, same_length)

  pub filled_within : fill + length bs ≤ length (append d fill bs)
  filled_within = omega (arith, same_length)

  pub filled_is : filled_with d fill bs ≡ take fill d ++ bs
  filled_is = filled_append d fill bs (omega arith)

-- ---- the layouts of the three buffers, by their filled parts
module _ (fill : ℕ) (s : List ℕ) (short : length s ≤ limit) (filled : fill ≤ length s) where
  pub data_passes : (region : ℕ) → region_number_ok region ≡ true → data_buffer_layout region fill s ≡ None
  data_passes region e = data_layout fill s region e ∙ filled_kept fill s None short filled

  pub pending_passes : first_bad (pending_ok 16 (take fill s)) (places (take fill s)) ≡ None → pending_buffer_layout fill s ≡ None
  unfolding pending_buffer_layout
  pending_passes g = filled_kept fill s (first_bad (pending_ok 16 (take fill s)) (places (take fill s))) short filled ∙ g

  pub breakpoints_pass : first_bad (breakpoint_ok (take fill s)) (places (take fill s)) ≡ None → breakpoint_buffer_layout fill s ≡ None
  unfolding breakpoint_buffer_layout
  breakpoints_pass g = filled_kept fill s (first_bad (breakpoint_ok (take fill s)) (places (take fill s))) short filled ∙ g

  -- The filled part also passes as a build's list.
  pub build_passes : (regions : ℕ) → first_bad (pending_ok regions (take fill s)) (places (take fill s)) ≡ None → pending_layout regions (take fill s) ≡ None
  unfolding pending_layout
  build_passes regions g =
      limit_kept (take fill s) (first_bad (pending_ok regions (take fill s)) (places (take fill s))) (omega (arith, length-take fill s)) ∙ g

-- A number that passes, and is not the number for no region, is below 16.
pub selected_below : (region : ℕ) → region_number_ok region ≡ true → eqb region 65535 ≡ false → region < 16
selected_below region e n = go (leb region 15) refl
  where
    go : (b : Bool) → leb region 15 ≡ b → region < 16
    go true b = omega (arith, leb-true region 15 b)
    go false b =
        let q : region_number_ok region ≡ false = rw (b, region_number_ok) n in
        let z : ◌≡◌ {A = ℕ} 0 1 = cc in
        absurd (omega arith)
