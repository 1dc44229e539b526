-- The region list of a line, case by case; a place it names is at most the limit. Assumes nothing.
use Rattle.std.specs.Prelude.{ℕ, ◌≤◌, ◌<◌, Bool, true, false, ◌||◌, List, ◌≡◌, refl, length, take, ltb, eqb, None, Option, Some}
use Rattle.std.proofs.Common.{arith, sym, ap, ap₂, ◌∙◌, length-take-le, eq-eqb, ne_eqb}
use Rattle.std.proofs.lemmas.Bool.{lt-leb}
use Rattle.record.specs.Records.{limit}
use Rattle.regions.specs.Regions.{region_layout, region_count}
use Rattle.regions.proofs.RegionsLaws.{region_place_lem}
use Rattle.breakpoints.specs.Breakpoints.{filled_layout, region_number_ok}
use Rattle.breakpoints.proofs.BreakpointsLaws.{filled_kept, filled_good, filled_bad}
use Rattle.emit_outcome.specs.Room.{no_region}
use Rattle.patching_outcome.specs.Line.{is_listed, only_listed}
use Rattle.patching_checks.proofs.PlacesLaws.{filled_place}
use Rattle.patching_line.specs.Lists.{listed_in}

pub number_by : (n : ℕ) → 15 < n → eqb n 65535 ≡ region_number_ok n
number_by n h = rw (lt-leb n 15 h, region_number_ok)

pub none_listed : (s : List ℕ) (region : ℕ) → region ≡ no_region → is_listed s region ≡ true
none_listed s region e = ap (λ (b : Bool). b || ltb region (region_count s)) (eq-eqb region no_region e)

pub listed_count : (s : List ℕ) (region : ℕ) → (region ≡ no_region → ⊥) → (n : ℕ) → n ≡ region_count s → ltb region n ≡ is_listed s region
listed_count s region h n e = ap (ltb region) e ∙ sym (ap (λ (b : Bool). b || ltb region (region_count s)) (ne_eqb region no_region h))

module _ (region fill : ℕ) (s : List ℕ) where
  pub number_bad : region_number_ok region ≡ false → listed_in region fill s ≡ Some 0
  number_bad e = rw (e, listed_in)

  only_bad : (b : Bool) (l : Option ℕ) (p : ℕ) → filled_layout fill s l ≡ Some p → filled_layout fill s (only_listed b l) ≡ Some p
  only_bad true l p e = e
  only_bad false None p e = filled_bad fill s (Some 0) p e
  only_bad false (Some q) p e = e

  pub listed_bad : region_number_ok region ≡ true → (p : ℕ) → filled_layout fill s (region_layout (take fill s)) ≡ Some p → listed_in region fill s ≡ Some p
  listed_bad ok p e = rw (ok, listed_in) (only_bad (is_listed (take fill s) region) (region_layout (take fill s)) p e)

  pub listed_by : region_number_ok region ≡ true → filled_layout fill s (region_layout (take fill s)) ≡ None → (b : Bool) → is_listed (take fill s) region ≡ b
      → listed_in region fill s ≡ only_listed b None
  listed_by ok e b h =
      let f = filled_good fill s (region_layout (take fill s)) e in
      rw (ok, listed_in) (ap (filled_layout fill s) (ap₂ only_listed h f.2) ∙ filled_kept fill s (only_listed b None) f.0 f.1)

  -- The list's own layout is checked first, then the selected region.
  pub listed_or : region_number_ok region ≡ true → (given answer : Option ℕ) → given ≡ filled_layout fill s (region_layout (take fill s))
      → (given ≡ None → answer ≡ only_listed (is_listed (take fill s) region) None) → ((p : ℕ) → given ≡ Some p → answer ≡ Some p) → answer ≡ listed_in region fill s
  listed_or ok None answer e good bad = good refl ∙ sym (listed_by ok (sym e) (is_listed (take fill s) region) refl)
  listed_or ok (Some p) answer e good bad = bad p refl ∙ sym (listed_bad ok p (sym e))

  only_place : (b : Bool) (l : Option ℕ) (p : ℕ) → (l ≡ Some p → p ≤ limit) → only_listed b l ≡ Some p → p ≤ limit
  only_place true l p k e = k e
  only_place false None p k e = let z : 0 ≡ p = cc in omega arith
  only_place false (Some q) p k e = k e

  pub listed_place : (p : ℕ) → listed_in region fill s ≡ Some p → p ≤ limit
  listed_place p e = go (region_number_ok region) e
    where
      go : (b : Bool) → ◌≡◌ {A = Option ℕ} (elim b [ true ↦ filled_layout fill s (only_listed (is_listed (take fill s) region) (region_layout (take fill s))) | false ↦ Some 0 ]) (Some p) → p ≤ limit
      go true x =
          filled_place fill s (only_listed (is_listed (take fill s) region) (region_layout (take fill s))) p x
          (λ h. only_place (is_listed (take fill s) region) (region_layout (take fill s)) p (λ k. region_place_lem (take fill s) p k) h)
      go false x = let z : 0 ≡ p = cc in omega arith

  only_good : (b : Bool) (l : Option ℕ) → only_listed b l ≡ None → l ≡ None
  only_good true l e = e
  only_good false None e = refl
  only_good false (Some q) e = let z : ◌≡◌ {A = ℕ} 0 1 = cc in absurd (omega arith)

  pub listed_good : listed_in region fill s ≡ None → (fill ≤ length s) × (region_layout (take fill s) ≡ None) × (length (take fill s) ≡ fill)
  listed_good e = go (region_number_ok region) e
    where
      go : (b : Bool) → ◌≡◌ {A = Option ℕ} (elim b [ true ↦ filled_layout fill s (only_listed (is_listed (take fill s) region) (region_layout (take fill s))) | false ↦ Some 0 ]) None
          → (fill ≤ length s) × (region_layout (take fill s) ≡ None) × (length (take fill s) ≡ fill)
      go true x =
          let f = filled_good fill s (only_listed (is_listed (take fill s) region) (region_layout (take fill s))) x in
          (f.1, only_good (is_listed (take fill s) region) (region_layout (take fill s)) f.2, length-take-le fill s f.1)
      go false x = let z : ◌≡◌ {A = ℕ} 0 1 = cc in absurd (omega arith)
