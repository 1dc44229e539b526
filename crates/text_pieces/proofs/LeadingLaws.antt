-- Laws of `leading`, the longest beginning whose bytes all pass a test: from a place on, its length, and where it stops. Assumes nothing.
use Prim.Native.Nat.{ℕ, suc, ◌+◌, ◌≤◌, ◌<◌}
use Rattle.std.proofs.Common.{add-one, ap, ◌∙◌, drop_of_length-le, drop-cons, le-leb, eq-eqb, ne_eqb, ltb-false}
use native.Mathlib.Omega.{arith}
use mathlib.Core.List.{List, [], ◌∷◌}
use Rattle.std.specs.List.{position_or_len}
use Rattle.std.specs.Prelude.{Option, Some, None, cond, ltb, unwrap_or, Bool, not, ◌&&◌, ◌≡◌, drop, leb, eqb}
use Rattle.std.proofs.Math.Bool.{true, false}
use Rattle.std.proofs.Math.Path.{refl}
use Rattle.std.proofs.Math.ListN.{length, take}
use Rattle.std.proofs.lemmas.Bool.{lt-leb}
use Rattle.record.specs.Bytes.{byte_at, is_text, all}
use Rattle.text_pieces.specs.Leading.{leading, plain}

module _ (p : ℕ → Bool) where
  pub leading_on : (b : ℕ) (s : List ℕ) → p b ≡ true → leading p (b ∷ s) ≡ b ∷ leading p s
  unfolding leading
  leading_on b s e = rw (e, leading)

  pub leading_off : (b : ℕ) (s : List ℕ) → p b ≡ false → leading p (b ∷ s) ≡ []
  unfolding leading
  leading_off b s e = rw (e, leading)

  -- ---- from a place on
  pub leading_next : (s : List ℕ) (i : ℕ) → i < length s → p (byte_at s i) ≡ true → leading p (drop i s) ≡ byte_at s i ∷ leading p (drop (i + 1) s)
  leading_next s i h e = rw (add-one, drop-cons s i 0) (leading_on (byte_at s i) (drop (suc i) s) e)

  pub leading_stop : (s : List ℕ) (i : ℕ) → i < length s → p (byte_at s i) ≡ false → leading p (drop i s) ≡ []
  leading_stop s i h e = rw (drop-cons s i 0) (leading_off (byte_at s i) (drop (suc i) s) e)

  pub leading_end : (s : List ℕ) (i : ℕ) → length s ≤ i → leading p (drop i s) ≡ []
  unfolding leading
  leading_end s i h = rw (drop_of_length-le s h)

  -- The same for lengths, as a loop counts them.
  pub length_next : (s : List ℕ) (i : ℕ) → i < length s → p (byte_at s i) ≡ true → length (leading p (drop i s)) ≡ length (leading p (drop (i + 1) s)) + 1
  length_next s i h e = ap length (leading_next s i h e) ∙ omega arith

  -- ---- the whole
  pub leading_all : (s : List ℕ) → all p (leading p s) ≡ true
  unfolding leading all
  leading_all [] = refl
  leading_all (b ∷ s) = go (p b) refl (leading_all s)
    where
      go : (t : Bool) → p b ≡ t → all p (leading p s) ≡ true → all p (leading p (b ∷ s)) ≡ true
      go true e ih = rw (e, leading) (rw e ih)
      go false e ih = rw (e, leading)

  pub leading_le : (s : List ℕ) → length (leading p s) ≤ length s
  unfolding leading
  leading_le [] = omega arith
  leading_le (b ∷ s) = go (p b) refl (leading_le s)
    where
      go : (t : Bool) → p b ≡ t → length (leading p s) ≤ length s → length (leading p (b ∷ s)) ≤ suc (length s)
      go true e ih = rw (e, leading) (omega arith)
      go false e ih = rw (e, leading) (omega arith)

  -- It is the beginning of the text.
  pub leading_take : (s : List ℕ) → take (length (leading p s)) s ≡ leading p s
  unfolding leading
  leading_take [] = refl
  leading_take (b ∷ s) = go (p b) refl (leading_take s)
    where
      go : (t : Bool) → p b ≡ t → take (length (leading p s)) s ≡ leading p s → take (length (leading p (b ∷ s))) (b ∷ s) ≡ leading p (b ∷ s)
      go true e ih = rw (e, leading) (ap (λ (r : List ℕ). b ∷ r) ih)
      go false e ih = rw (e, leading)

-- ---- where it stops, as a search for the first byte that fails gives it

cond_at : (n k : ℕ) (r : Option ℕ) → n ≤ k → r ≡ cond (ltb n k) (Some n) None → unwrap_or r k ≡ n
cond_at n k r h e = go (ltb n k) refl
  where
    go : (b : Bool) → ltb n k ≡ b → unwrap_or r k ≡ n
    go true b = rw e (rw b)
    go false b = let s : k ≡ n = omega (arith, ltb-false n k b) in rw e (rw b s)

module _ (p : ℕ → Bool) where
  stop_at : (s : List ℕ) → position_or_len (λ b. not (p b)) s ≡ length (leading p s)
  unfolding leading
  stop_at [] = refl
  stop_at (b ∷ s) = go (p b) refl (stop_at s)
    where
      go : (t : Bool) → p b ≡ t → position_or_len (λ b. not (p b)) s ≡ length (leading p s) → position_or_len (λ b. not (p b)) (b ∷ s) ≡ length (leading p (b ∷ s))
      go true e ih = rw (e, leading) (omega (arith, ih))
      go false e ih = rw (e, leading)

  pub leading_position : (s : List ℕ) (r : Option ℕ) → let n = position_or_len (λ b. not (p b)) s in r ≡ cond (ltb n (length s)) (Some n) None
      → (unwrap_or r (length s) ≡ length (leading p s)) × (unwrap_or r (length s) ≤ length s)
  leading_position s r e =
      let l = leading_le p s in
      let u = cond_at (position_or_len (λ b. not (p b)) s) (length s) r (omega (arith, stop_at s)) e ∙ stop_at s in
      (u, omega (arith, u))

-- ---- a plain byte
second_fails : (a b c : Bool) → b ≡ false → (a && b && c) ≡ false
second_fails true b c e = rw e
second_fails false b c e = refl

last_fails : (a b : Bool) → b ≡ false → (a && b) ≡ false
last_fails true b e = e
last_fails false b e = refl

module _ (end b : ℕ) where
  pub plain_low : b < 0x20 → plain end b ≡ false
  plain_low h = rw (lt-leb 0x20 b h)

  pub plain_high : 0x7E < b → plain end b ≡ false
  plain_high h = second_fails (leb 0x20 b) (leb b 0x7E) (not (eqb b end)) (lt-leb b 0x7E h)

  pub plain_ends : b ≡ end → plain end b ≡ false
  plain_ends e = last_fails (is_text b) (not (eqb b end)) (ap not (eq-eqb b end e))

  pub plain_is : 0x20 ≤ b → b ≤ 0x7E → (b ≡ end → ⊥) → plain end b ≡ true
  plain_is h k d = rw (le-leb 0x20 b h, le-leb b 0x7E k, ne_eqb b end d)
