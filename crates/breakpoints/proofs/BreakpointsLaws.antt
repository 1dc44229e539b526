-- What a breakpoint's test says, fact by fact, and laws of the filled part of a buffer. Assumes nothing.
use Rattle.std.specs.Prelude.{ℕ, ◌+◌, ◌%◌, ◌≤◌, ◌<◌, List, Bool, ◌&&◌, ◌≡◌, refl, length, take, leb, eqb, None, Option, Some}
use Rattle.std.proofs.Math.Bool.{true, false, and-eq-true_iff}
use Rattle.std.proofs.Common.{sym, ◌∙◌, arith, leb-true, leb-false, le-leb, eq-eqb, ne_eqb}
use Rattle.std.proofs.lemmas.Bool.{lt-leb}
use Rattle.record.specs.Records.{body_len, kind_at, next, whole, places, first_bad, limit}
use Rattle.record.proofs.RecordsLaws.{whole_is, limit_kept, limit_passed}
use Rattle.pending.specs.Pendings.{pending_ok}
use Rattle.breakpoints.specs.Breakpoints.{breakpoint_ok, filled_layout, pending_buffer_layout, breakpoint_buffer_layout, region_number_ok, data_buffer_layout}

pub record BreakpointIs (s : List ℕ) (at : ℕ) : Type 0 where
  pub whole_at : whole s at ≡ true
  pub head : at + 4 ≤ length s
  pub body : next s at ≤ length s
  pub least : 12 ≤ body_len s at
  pub most : body_len s at ≤ 28

pub breakpoint_is : (s : List ℕ) (at : ℕ) → breakpoint_ok s at ≡ true → BreakpointIs s at
unfolding breakpoint_ok
breakpoint_is s at e =
    let n = body_len s at in
    let kind = eqb (kind_at s at) 37 in
    let w = (and-eq-true_iff (whole s at) (kind && leb 12 n && leb n 28 && eqb (n % 4) 0)).0 e in
    let r = whole_is s at w.0 in
    let b = (and-eq-true_iff (kind && leb 12 n && leb n 28) (eqb (n % 4) 0)).0 w.1 in
    let m = (and-eq-true_iff (kind && leb 12 n) (leb n 28)).0 b.0 in
    let l = (and-eq-true_iff kind (leb 12 n)).0 m.0 in
    record { whole_at = w.0; head = r.0; body = r.1; least = leb-true 12 n l.1; most = leb-true n 28 m.1 }

-- ---- the filled part of a buffer: its layout, or the count is over the length, or the buffer is over the limit
module _ (fill : ℕ) (s : List ℕ) where
  pub filled_kept : (l : Option ℕ) → length s ≤ limit → fill ≤ length s → filled_layout fill s l ≡ l
  unfolding filled_layout
  filled_kept l h f = rw (le-leb fill (length s) f, filled_layout) (limit_kept s l h)

  pub filled_over : (l : Option ℕ) → length s ≤ limit → length s < fill → filled_layout fill s l ≡ Some (length s)
  unfolding filled_layout
  filled_over l h f = rw (lt-leb fill (length s) f, filled_layout) (limit_kept s (Some (length s)) h)

  pub filled_passed : (l : Option ℕ) → limit < length s → filled_layout fill s l ≡ Some limit
  unfolding filled_layout
  filled_passed l h = limit_passed s (elim (leb fill (length s)) [ true ↦ l | false ↦ Some (length s) ]) h

  -- Either the length and the count pass, or the layout of the filled part does not matter.
  data Filled : Type 0 where
    kept : length s ≤ limit → fill ≤ length s → Filled
    refused : (p : ℕ) → ((l : Option ℕ) → filled_layout fill s l ≡ Some p) → Filled

  which : Filled
  which = go (leb (length s) limit) refl (leb fill (length s)) refl
    where
      go : (b : Bool) → leb (length s) limit ≡ b → (d : Bool) → leb fill (length s) ≡ d → Filled
      go true e true f = kept (leb-true (length s) limit e) (leb-true fill (length s) f)
      go true e false f = refused (length s) (λ l. filled_over l (leb-true (length s) limit e) (leb-false fill (length s) f))
      go false e d f = refused limit (λ l. filled_passed l (leb-false (length s) limit e))

  pub filled_good : (l : Option ℕ) → filled_layout fill s l ≡ None → (length s ≤ limit) × (fill ≤ length s) × (l ≡ None)
  filled_good l g = go which
    where
      go : Filled → (length s ≤ limit) × (fill ≤ length s) × (l ≡ None)
      go (kept h f) = (h, f, sym (filled_kept l h f) ∙ g)
      go (refused p r) = let b = r l in let z : ◌≡◌ {A = ℕ} 0 1 = cc in absurd (omega arith)

  -- If the length or the count is refused, the place is the same for every layout.
  pub filled_bad : (l : Option ℕ) (p : ℕ) → filled_layout fill s None ≡ Some p → filled_layout fill s l ≡ Some p
  filled_bad l p b = go which
    where
      go : Filled → filled_layout fill s l ≡ Some p
      go (kept h f) = cc (filled_kept None h f)
      go (refused q r) = cc (r None, r l)

  -- The layout decides only if neither the length nor the count is refused.
  pub filled_or : (l given answer : Option ℕ) → given ≡ filled_layout fill s None → (given ≡ None → answer ≡ l) → ((p : ℕ) → given ≡ Some p → answer ≡ Some p)
      → answer ≡ filled_layout fill s l
  filled_or l None answer e good bad = let g = filled_good None (sym e) in good refl ∙ sym (filled_kept l g.0 g.1)
  filled_or l (Some p) answer e good bad = bad p refl ∙ sym (filled_bad l p (sym e))

  -- ---- the three buffers
  pub pending_buffer_good : pending_buffer_layout fill s ≡ None → (length s ≤ limit) × (fill ≤ length s) × (first_bad (pending_ok 16 (take fill s)) (places (take fill s)) ≡ None)
  unfolding pending_buffer_layout
  pending_buffer_good g = filled_good (first_bad (pending_ok 16 (take fill s)) (places (take fill s))) g

  pub breakpoint_buffer_good : breakpoint_buffer_layout fill s ≡ None → (length s ≤ limit) × (fill ≤ length s) × (first_bad (breakpoint_ok (take fill s)) (places (take fill s)) ≡ None)
  unfolding breakpoint_buffer_layout
  breakpoint_buffer_good g = filled_good (first_bad (breakpoint_ok (take fill s)) (places (take fill s))) g

  pub data_layout : (region : ℕ) → region_number_ok region ≡ true → data_buffer_layout region fill s ≡ filled_layout fill s None
  unfolding data_buffer_layout
  data_layout region e = rw (e, data_buffer_layout)

  pub data_refused : (region : ℕ) → region_number_ok region ≡ false → data_buffer_layout region fill s ≡ Some 0
  unfolding data_buffer_layout
  data_refused region e = rw (e, data_buffer_layout)

  pub data_good : (region : ℕ) → data_buffer_layout region fill s ≡ None → (region_number_ok region ≡ true) × (length s ≤ limit) × (fill ≤ length s)
  data_good region g = go (region_number_ok region) refl
    where
      go : (b : Bool) → region_number_ok region ≡ b → (region_number_ok region ≡ true) × (length s ≤ limit) × (fill ≤ length s)
      go true e = let f = filled_good None (sym (data_layout region e) ∙ g) in (e, f.0, f.1)
      go false e = let r = data_refused region e in let z : ◌≡◌ {A = ℕ} 0 1 = cc in absurd (omega arith)

-- which region numbers pass, and which do not
pub number_region : (n : ℕ) → n ≤ 15 → region_number_ok n ≡ true
number_region n h = rw (le-leb n 15 h, region_number_ok)

pub number_none : (n : ℕ) → 15 < n → n ≡ 65535 → region_number_ok n ≡ true
number_none n h e = rw (lt-leb n 15 h, region_number_ok) (eq-eqb n 65535 e)

pub number_other : (n : ℕ) → 15 < n → (n ≡ 65535 → ⊥) → region_number_ok n ≡ false
number_other n h e = rw (lt-leb n 15 h, region_number_ok) (ne_eqb n 65535 e)
