-- A place that one of these layouts names is at most the limit. Assumes nothing.
use Rattle.std.specs.Prelude.{ℕ, ◌≤◌, Bool, true, false, List, ◌≡◌, refl, length, take, leb, None, Option, Some}
use Rattle.std.proofs.Common.{arith, sym, ◌∙◌, leb-true, leb-false}
use Rattle.record.specs.Records.{places, limit}
use Rattle.regions.specs.Regions.{region_layout}
use Rattle.regions.proofs.RegionsLaws.{region_place_lem}
use Rattle.pending.specs.Pendings.{pending_layout}
use Rattle.pending.proofs.PendingsLaws.{pending_good}
use Rattle.breakpoints.specs.Breakpoints.{filled_layout}
use Rattle.breakpoints.proofs.BreakpointsLaws.{filled_kept, filled_over, filled_passed}
use Rattle.binary_builder.proofs.PlacesLaws.{pending_place}
use Rattle.patching_outcome.specs.Patching.{has_patched}

pub filled_place : (fill : ℕ) (s : List ℕ) (l : Option ℕ) (p : ℕ) → filled_layout fill s l ≡ Some p → (l ≡ Some p → p ≤ limit) → p ≤ limit
filled_place fill s l p e k = go (leb (length s) limit) refl (leb fill (length s)) refl
  where
    same : (a b : ℕ) → ◌≡◌ {A = Option ℕ} (Some a) (Some b) → a ≡ b
    same a b x = cc

    go : (b : Bool) → leb (length s) limit ≡ b → (d : Bool) → leb fill (length s) ≡ d → p ≤ limit
    go true b true d = k (sym (filled_kept fill s l (leb-true (length s) limit b) (leb-true fill (length s) d)) ∙ e)
    go true b false d =
        let w = leb-true (length s) limit b in
        let z : length s ≡ p = same (length s) p (sym (filled_over fill s l w (leb-false fill (length s) d)) ∙ e) in
        omega arith
    go false b d f =
        let z : limit ≡ p = same limit p (sym (filled_passed fill s l (leb-false (length s) limit b)) ∙ e) in
        omega arith

pub regions_place : (fill : ℕ) (s : List ℕ) (p : ℕ) → filled_layout fill s (region_layout (take fill s)) ≡ Some p → p ≤ limit
regions_place fill s p e = filled_place fill s (region_layout (take fill s)) p e (λ h. region_place_lem (take fill s) p h)

pub pendings_place : (fill patches regions : ℕ) (s : List ℕ) (p : ℕ)
    → filled_layout fill s (has_patched patches (take fill s) (pending_layout regions (take fill s))) ≡ Some p → p ≤ limit
pendings_place fill patches regions s p e =
    filled_place fill s (has_patched patches (take fill s) (pending_layout regions (take fill s))) p e (λ h. by_layout (pending_layout regions (take fill s)) refl h)
  where
    by_count : (b : Bool) → length (take fill s) ≤ limit → ◌≡◌ {A = Option ℕ} (elim b [ true ↦ None | false ↦ Some (length (take fill s)) ]) (Some p) → p ≤ limit
    by_count true w h = let z : ◌≡◌ {A = ℕ} 0 1 = cc in absurd (omega arith)
    by_count false w h = let z : length (take fill s) ≡ p = cc in omega arith

    by_layout : (l : Option ℕ) → pending_layout regions (take fill s) ≡ l → has_patched patches (take fill s) l ≡ Some p → p ≤ limit
    by_layout None g h = by_count (leb patches (length (places (take fill s)))) (pending_good regions (take fill s) g).0 h
    by_layout (Some q) g h = pending_place regions (take fill s) p (g ∙ h)

pub kept_place : (fill : ℕ) (s : List ℕ) (p : ℕ) → filled_layout fill s None ≡ Some p → p ≤ limit
kept_place fill s p e = filled_place fill s None p e (λ h. let z : ◌≡◌ {A = ℕ} 0 1 = cc in absurd (omega arith))
