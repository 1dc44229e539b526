-- Laws of the names in a list of records. Assumes nothing.
use Rattle.std.specs.Prelude.{ℕ, ◌+◌, ◌-◌, ◌<◌, ◌≤◌, Bool, length, leb, None, Option, Some}
use mathlib.Core.List.{List, [], ◌∷◌}
use Rattle.std.proofs.Math.Bool.{true, false, and-eq-true_iff}
use Rattle.std.proofs.Math.Path.{◌≡◌, refl, ap}
use Rattle.std.proofs.Common.{sym, ap₂, ◌∙◌, length-take, length-drop, leb-true, le-leb, arith}
use Rattle.record.specs.Bytes.{part}
use Rattle.record.specs.Records.{body_len, next, whole, places, places_from, first_bad, limit, within_limit}
use Rattle.record.proofs.RecordsLaws.{places_step, places_end, whole_is, first_pass, first_hit, first_good, first_place, limit_good}
use Rattle.names.specs.Names.{name_of, has_name, first_where, is_at, first_later, is_first}

-- What holds when the test passes: the record has a name.
pub record HasNameIs (skip : ℕ) (s : List ℕ) (at : ℕ) : Type 0 where
  pub whole_at : whole s at ≡ true
  pub head : at + 4 ≤ length s
  pub body : next s at ≤ length s
  pub room : skip ≤ body_len s at

pub has_name_is : (skip : ℕ) (s : List ℕ) (at : ℕ) → has_name skip s at ≡ true → HasNameIs skip s at
has_name_is skip s at e =
    let w = (and-eq-true_iff (whole s at) (leb skip (body_len s at))).0 e in
    let r = whole_is s at w.0 in
    record { whole_at = w.0; head = r.0; body = r.1; room = leb-true skip (body_len s at) w.1 }

pub has_name_lem : (skip : ℕ) (s : List ℕ) (at : ℕ) → whole s at ≡ true → skip ≤ body_len s at → has_name skip s at ≡ true
has_name_lem skip s at w h = (and-eq-true_iff (whole s at) (leb skip (body_len s at))).1 (w, le-leb skip (body_len s at) h)

-- The bytes from the end of the fixed fields to the end of the record are its name.
pub name_part : (skip : ℕ) (s : List ℕ) (at n i : ℕ) → n ≡ body_len s at → i ≡ at + 4 + skip → part s i (at + 4 + n - i) ≡ name_of skip s at
name_part skip s at n i e f =
    let k : at + 4 + n - i ≡ body_len s at - skip = omega arith in
    ap₂ (part s) f k

pub name_is : (skip : ℕ) (s : List ℕ) (at e i : ℕ) → e ≡ next s at → i ≡ at + 4 + skip → part s i (e - i) ≡ name_of skip s at
name_is skip s at e i h f =
    let k : e - i ≡ body_len s at - skip = omega arith in
    ap₂ (part s) f k

pub name_length : (skip : ℕ) (s : List ℕ) (at : ℕ) → HasNameIs skip s at → length (name_of skip s at) ≡ body_len s at - skip
name_length skip s at h = simp (length-take, length-drop) (omega (arith, h))

-- A test that passes only for records with names passes everywhere: so every record has a name.
pub all_named : (ok named : ℕ → Bool) → ((p : ℕ) → ok p ≡ true → named p ≡ true) → (ps : List ℕ) → first_bad ok ps ≡ None → first_bad named ps ≡ None
unfolding first_bad
all_named ok named h [] g = refl
all_named ok named h (p ∷ ps) g =
    let f = first_good ok p ps g in
    first_pass named p ps (h p f.0) ∙ all_named ok named h ps f.1

-- ---- the first record that passes a test, from a place on
module _ (test : ℕ → Bool) where
  abbrev pub where_from : List ℕ → ℕ → Option ℕ
  where_from s at = first_where test (places_from s at)

  pub where_end : (s : List ℕ) (at : ℕ) → length s ≤ at → where_from s at ≡ None
  unfolding first_where
  where_end s at h = rw (places_end s at h)

  pub where_hit : (p : ℕ) (ps : List ℕ) → test p ≡ true → first_where test (p ∷ ps) ≡ Some p
  unfolding first_where
  where_hit p ps e = rw (e, first_where)

  pub where_pass : (p : ℕ) (ps : List ℕ) → test p ≡ false → first_where test (p ∷ ps) ≡ first_where test ps
  unfolding first_where
  where_pass p ps e = rw (e, first_where)

  pub where_here : (s : List ℕ) (at : ℕ) → at < length s → whole s at ≡ true → test at ≡ true → where_from s at ≡ Some at
  where_here s at h w e = ap (first_where test) (places_step s at h w) ∙ where_hit at (places_from s (next s at)) e

  pub where_next : (s : List ℕ) (at : ℕ) → at < length s → whole s at ≡ true → test at ≡ false → where_from s at ≡ where_from s (next s at)
  where_next s at h w e = ap (first_where test) (places_step s at h w) ∙ where_pass at (places_from s (next s at)) e

  -- The record found stands at one of the places, so it has what every place has.
  pub named_ok : (ok : ℕ → Bool) (ps : List ℕ) (p : ℕ) → first_bad ok ps ≡ None → first_where test ps ≡ Some p → ok p ≡ true
  unfolding first_where
  named_ok ok [] p g e = let z : ◌≡◌ {A = ℕ} 0 1 = cc in absurd (omega arith)
  named_ok ok (q ∷ qs) p g e = go (test q) refl (named_ok ok qs p)
    where
      go : (b : Bool) → test q ≡ b → (first_bad ok qs ≡ None → first_where test qs ≡ Some p → ok p ≡ true) → ok p ≡ true
      go true t ih =
          let hit : q ≡ p = cc (where_hit q qs t) in
          cc (first_good ok q qs g).0
      go false t ih = ih (first_good ok q qs g).1 (sym (where_pass q qs t) ∙ e)

-- Two tests that agree at each good place find the same record; a test that fails at each finds none.
pub where_agree : (ok f g : ℕ → Bool) → ((p : ℕ) → ok p ≡ true → f p ≡ g p) → (ps : List ℕ) → first_bad ok ps ≡ None → first_where f ps ≡ first_where g ps
unfolding first_where
where_agree ok f g h [] k = refl
where_agree ok f g h (p ∷ ps) k =
    let t = first_good ok p ps k in
    ap₂ (λ (b : Bool) (n : Option ℕ). elim b [ true ↦ Some p | false ↦ n ]) (h p t.0) (where_agree ok f g h ps t.1)

pub where_none : (ok f : ℕ → Bool) → ((p : ℕ) → ok p ≡ true → f p ≡ false) → (ps : List ℕ) → first_bad ok ps ≡ None → first_where f ps ≡ None
unfolding first_where
where_none ok f h [] k = refl
where_none ok f h (p ∷ ps) k =
    let t = first_good ok p ps k in
    where_pass f p ps (h p t.0) ∙ where_none ok f h ps t.1

-- ---- the first record that repeats an earlier one
module _ (same : ℕ → ℕ → Bool) where
  pub later_hit : (list : List ℕ) (p : ℕ) (ps : List ℕ) → is_first same list p ≡ false → first_later same list (p ∷ ps) ≡ Some p
  unfolding first_later
  later_hit list p ps e = rw (e, first_later)

  pub later_pass : (list : List ℕ) (p : ℕ) (ps : List ℕ) → is_first same list p ≡ true → first_later same list (p ∷ ps) ≡ first_later same list ps
  unfolding first_later
  later_pass list p ps e = rw (e, first_later)

  -- A record that repeats an earlier one is not the first of its name.
  later_bad : (list ps : List ℕ) (p : ℕ) → first_later same list ps ≡ Some p → first_bad (is_first same list) ps ≡ Some p
  unfolding first_later
  later_bad list [] p e = let z : ◌≡◌ {A = ℕ} 0 1 = cc in absurd (omega arith)
  later_bad list (q ∷ qs) p e = go (is_first same list q) refl (later_bad list qs p)
    where
      go : (b : Bool) → is_first same list q ≡ b → (first_later same list qs ≡ Some p → first_bad (is_first same list) qs ≡ Some p) → first_bad (is_first same list) (q ∷ qs) ≡ Some p
      go true f ih = first_pass (is_first same list) q qs f ∙ ih (sym (later_pass list q qs f) ∙ e)
      go false f ih =
          let h : q ≡ p = cc (later_hit list q qs f) in
          first_hit (is_first same list) q qs f ∙ ap Some h

  -- So its place is within the list.
  pub later_place : (s : List ℕ) (p : ℕ) → first_later same (places s) (places s) ≡ Some p → p ≤ length s
  later_place s p e = first_place (is_first same (places s)) s p (later_bad (places s) (places s) p e)

  -- If the list is within the limit, so is that place.
  pub repeat_within : (s : List ℕ) (l : Option ℕ) (p : ℕ) → within_limit s l ≡ None → first_later same (places s) (places s) ≡ Some p → p ≤ limit
  repeat_within s l p g e = omega (arith, (limit_good s l g).0, later_place s p e)

pub later_agree : (ok : ℕ → Bool) (same other : ℕ → ℕ → Bool) → ((p q : ℕ) → ok p ≡ true → ok q ≡ true → same p q ≡ other p q)
    → (list ps : List ℕ) → first_bad ok list ≡ None → first_bad ok ps ≡ None → first_later same list ps ≡ first_later other list ps
unfolding first_later
later_agree ok same other h list [] k g = refl
later_agree ok same other h list (p ∷ ps) k g =
    let t = first_good ok p ps g in
    ap₂ (λ (n : Option ℕ) (r : Option ℕ). elim (is_at n p) [ true ↦ r | false ↦ Some p ])
    (where_agree ok (same p) (other p) (λ q e. h p q t.0 e) list k)
    (later_agree ok same other h list ps k t.1)
