-- Records of a minimum size: how many fit a list. Assumes nothing.
use Rattle.std.specs.Prelude.{ℕ, ◌+◌, ◌*◌, ◌≤◌, List, [], ◌∷◌, Bool, true, ◌≡◌, length, None}
use Rattle.std.proofs.Common.{arith, add-mul, ⊎_elim, sym, ap, ◌∙◌}
use Rattle.std.proofs.lemmas.Bool.{false≢true}
use Rattle.record.specs.Records.{body_len, next, whole, places, places_from, first_bad}
use Rattle.record.proofs.RecordsLaws.{places_all, places_cons, whole_is, first_good}

-- Only whole records of at least `least` bytes pass the test.
abbrev pub AtLeast : (least : ℕ) → List ℕ → (ℕ → Bool) → Type 0
AtLeast least s ok = (p : ℕ) → ok p ≡ true → (whole s p ≡ true) × (least ≤ 4 + body_len s p)

module _ (least : ℕ) (s : List ℕ) (ok : ℕ → Bool) (h : AtLeast least s ok) where
  count_from : (at : ℕ) (ps : List ℕ) → places_from s at ≡ ps → at ≤ length s → first_bad ok ps ≡ None → at + length ps * least ≤ length s
  count_from at [] e k g = omega arith
  count_from at (q ∷ ps) e k g =
      let c = places_cons s at q ps e in
      let f = first_good ok q ps g in
      let r = h at (ap ok (sym c.1) ∙ f.0) in
      let m : (1 + length ps) * least ≡ 1 * least + length ps * least = add-mul 1 (length ps) least in
      ⊎_elim
      (λ w. let i = count_from (next s at) ps w.1 (whole_is s at r.0).1 f.1 in omega (arith, r.1, m))
      (λ w. absurd (false≢true (sym w.0 ∙ r.0)))
      c.2

  pub count_at_least : first_bad ok (places s) ≡ None → length (places s) * least ≤ length s
  count_at_least g = omega (arith, count_from 0 (places s) (sym (places_all s)) (omega arith) g)
