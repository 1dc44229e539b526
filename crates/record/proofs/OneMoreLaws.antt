-- Laws of a list with one more whole record behind it, one set for every kind of record. Assumes nothing.
use Rattle.std.specs.Prelude.{ℕ, zero, suc, ◌+◌, ◌≤◌, ◌<◌, Bool, true, false, ◌≡◌, refl, ltb, leb, None, Option}
use Rattle.std.proofs.Common.{arith, ⊎_elim, ◌∙◌, length-append, le-leb, ltb-true, ltb-false}
use mathlib.Core.List.Memᴰ
use mathlib.Core.List.{List, [], ◌∷◌, ◌++◌, Memᴰ}
use Rattle.std.proofs.Math.Bool.{and-eq-true_iff}
use Rattle.std.proofs.Math.Path.{sym, ap}
use Rattle.std.proofs.Math.ListN.{length}
use Rattle.record.specs.Records.{next, whole, places_from, places, first_bad}
use Rattle.record.proofs.RecordsLaws.{places_all, places_step, places_end, whole_is, good_ok, good_next, first_append, first_pass, first_hit, or_else}
use Rattle.record.proofs.BehindLaws.{le16_before}

pub is_whole : (s : List ℕ) (at : ℕ) → at + 4 ≤ length s → next s at ≤ length s → whole s at ≡ true
is_whole s at h n = (and-eq-true_iff (leb (at + 4) (length s)) (leb (next s at) (length s))).1 (le-leb (at + 4) (length s) h, le-leb (next s at) (length s) n)

-- a whole record stays whole, and ends where it did
pub whole_before : (l r : List ℕ) (at : ℕ) → whole l at ≡ true → (whole (l ++ r) at ≡ true) × (next (l ++ r) at ≡ next l at)
whole_before l r at w =
    let h = whole_is l at w in
    let e : next (l ++ r) at ≡ next l at = omega (arith, le16_before l r at (omega arith)) in
    let n = length-append l r in
    (is_whole (l ++ r) at (omega arith) (omega arith), e)

-- In a list that keeps its layout, the test passes at each place.
pub good_each : (ok : ℕ → Bool) (ps : List ℕ) → first_bad ok ps ≡ None → (p : ℕ) → Memᴰ p ps → ok p ≡ true
good_each ok [] g p m = elim m [ ]
good_each ok (q ∷ ps) g p m = go (ok q) refl (λ h t. good_each ok ps h p t)
  where
    go : (b : Bool) → ok q ≡ b → (first_bad ok ps ≡ None → Memᴰ p ps → ok p ≡ true) → ok p ≡ true
    go true e ih = ⊎_elim (λ (h : p ≡ q). ap ok h ∙ e) (λ t. ih (sym (first_pass ok q ps e) ∙ g) t) (Memᴰ.cases_cons m)
    go false e ih = cc (first_hit ok q ps e)

-- A test that asks for a whole record, and does not depend on what follows the list.
pub record Local (ok : List ℕ → ℕ → Bool) : Type 0 where
  pub says_whole : (s : List ℕ) (at : ℕ) → ok s at ≡ true → whole s at ≡ true
  pub stays : (l r : List ℕ) (at : ℕ) → ok l at ≡ true → ok (l ++ r) at ≡ true

module _ (ok : List ℕ → ℕ → Bool) (local : Local ok) (l r : List ℕ) where
  -- The places from `at` on: first those of l, which pass, then those of what is behind it.
  record Kept (at : ℕ) : Type 0 where
    joined : places_from (l ++ r) at ≡ places_from l at ++ places_from (l ++ r) (length l)
    passes : first_bad (ok (l ++ r)) (places_from l at) ≡ None

  ended : (at : ℕ) → at ≡ length l → Kept at
  unfolding first_bad
  ended at e =
      let p = places_end l at (omega arith) in
      record {
        joined = ap (places_from (l ++ r)) e ∙ sym (ap (λ (ps : List ℕ). ps ++ places_from (l ++ r) (length l)) p);
        passes = ap (first_bad (ok (l ++ r))) p;
      }

  stepped : (at : ℕ) → at < length l → ok l at ≡ true → Kept (next l at) → Kept at
  stepped at h t k =
      let w = local.says_whole l at t in
      let n = whole_before l r at w in
      let p = places_step l at h w in
      let q = places_step (l ++ r) at (omega (arith, length-append l r)) n.0 ∙ ap (λ (m : ℕ). at ∷ places_from (l ++ r) m) n.1 in
      record {
        joined = q ∙ ap (λ (ps : List ℕ). at ∷ ps) k.joined ∙ sym (ap (λ (ps : List ℕ). ps ++ places_from (l ++ r) (length l)) p);
        passes = ap (first_bad (ok (l ++ r))) p ∙ first_pass (ok (l ++ r)) at (places_from l (next l at)) (local.stays l r at t) ∙ k.passes;
      }

  kept : (n at : ℕ) → length l ≤ at + n → at ≤ length l → first_bad (ok l) (places_from l at) ≡ None → Kept at
  kept zero at b h g = ended at (omega arith)
  kept (suc n) at b h g = go (ltb at (length l)) refl (λ i w. kept n (next l at) (omega arith) (whole_is l at w).1 (good_next (ok l) l at i w g))
    where
      go : (t : Bool) → ltb at (length l) ≡ t → (at < length l → whole l at ≡ true → Kept (next l at)) → Kept at
      go false e ih = let i = ltb-false at (length l) e in ended at (omega arith)
      go true e ih =
          let i = ltb-true at (length l) e in
          let t = good_ok (ok l) l at i g in
          stepped at i t (ih i (local.says_whole l at t))

  -- A list that keeps its layout, with one more good record behind it, at its end.
  pub record OneMore : Type 0 where
    pub places_are : places (l ++ r) ≡ places l ++ length l ∷ []
    pub keeps : first_bad (ok (l ++ r)) (places (l ++ r)) ≡ None

  pub one_more : first_bad (ok l) (places l) ≡ None → ok (l ++ r) (length l) ≡ true → next (l ++ r) (length l) ≡ length (l ++ r) → OneMore
  unfolding first_bad
  one_more g t e =
      let s = l ++ r in
      let w = local.says_whole s (length l) t in
      let h = whole_is s (length l) w in
      let k = kept (length l) 0 (omega arith) (omega arith) (ap (first_bad (ok l)) (sym (places_all l)) ∙ g) in
      let last : places_from s (length l) ≡ length l ∷ [] =
      places_step s (length l) (omega arith) w ∙ ap (λ (ps : List ℕ). length l ∷ ps) (places_end s (next s (length l)) (omega arith)) in
      let all : places s ≡ places l ++ length l ∷ [] =
      places_all s ∙ k.joined ∙ ap (λ (ps : List ℕ). places_from l 0 ++ ps) last ∙ sym (ap (λ (ps : List ℕ). ps ++ length l ∷ []) (places_all l)) in
      record {
        places_are = all;
        keeps = ap (first_bad (ok s)) all ∙ first_append (ok s) (places l) (length l ∷ [])
            ∙ ap (λ (y : Option ℕ). or_else y (first_bad (ok s) (length l ∷ []))) (ap (first_bad (ok s)) (places_all l) ∙ k.passes)
            ∙ first_pass (ok s) (length l) [] t;
      }
