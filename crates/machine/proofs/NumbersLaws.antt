-- Signed numbers as naturals: each natural is its signed number plus an offset. Assumes nothing.
use Rattle.std.specs.Prelude.{◌≡◌, ℕ, zero, suc, ◌+◌, ◌-◌, ◌/◌, ◌%◌, ◌^◌, ◌<◌, ◌≤◌, Bool, true, false, ◌⊎◌, ℤ, pos, negsuc, ◌+ℤ◌, ◌-ℤ◌, neg_ℤ, int_lt, nat_le, nat_lt, refl}
use Rattle.std.proofs.Common.{arith, sym, ◌∙◌, inl, inr, lt-ltb, le-ltb, le-leb, ltb-true, ltb-false, leb-true, leb-false}
use Rattle.std.proofs.Math.IntN.{sub_ℕ}
use Rattle.std.specs.Int.Signed.{shr_z}
use Rattle.machine.specs.Numbers.{signed, bits, is_signed32, raised, in_range}

-- x is z plus o.
abbrev pub Above : ℕ → ℤ → ℕ → Type 0
Above o (pos n) x = x ≡ o + n
Above o (negsuc n) x = x + suc n ≡ o

pub above_signed : (n : ℕ) → n < 2 ^ 32 → Above (2 ^ 31) (signed n) (raised n)
above_signed n h = go (nat_lt n (2 ^ 31)) refl
  where
    go : (b : Bool) → nat_lt n (2 ^ 31) ≡ b → Above (2 ^ 31) (signed n) (raised n)
    go true e = let k = ltb-true n (2 ^ 31) e in rw e (omega arith)
    go false e = let k = ltb-false n (2 ^ 31) e in rw e (omega arith)

above_sub : (o a b x : ℕ) → x + b ≡ o + a → Above o (sub_ℕ a b) x
above_sub o a b x e = go (nat_lt a b) refl
  where
    go : (c : Bool) → nat_lt a b ≡ c → Above o (sub_ℕ a b) x
    go true t = let k = ltb-true a b t in rw t (omega arith)
    go false t = let k = ltb-false a b t in rw t (omega arith)

pub above_sum : (o p : ℕ) (y z : ℤ) (a b : ℕ) → Above o y a → Above p z b → Above (o + p) (y +ℤ z) (a + b)
above_sum o p (pos n) (pos m) a b e f = omega arith
above_sum o p (pos n) (negsuc m) a b e f = above_sub (o + p) n (suc m) (a + b) (omega arith)
above_sum o p (negsuc n) (pos m) a b e f = above_sub (o + p) m (suc n) (a + b) (omega arith)
above_sum o p (negsuc n) (negsuc m) a b e f = omega arith

pub above_neg : (o p : ℕ) (z : ℤ) (b : ℕ) → Above o z b → o ≤ p → b ≤ p → Above (p - o) (neg_ℤ z) (p - b)
above_neg o p (pos zero) b e g h = omega arith
above_neg o p (pos (suc n)) b e g h = omega arith
above_neg o p (negsuc n) b e g h = omega arith

-- Two tests that imply each other are equal.
same_test : (a b c d : ℕ) → (a < b → c < d) → (c < d → a < b) → nat_lt a b ≡ nat_lt c d
same_test a b c d f g = go (nat_lt a b) refl
  where
    go : (t : Bool) → nat_lt a b ≡ t → nat_lt a b ≡ nat_lt c d
    go true e = e ∙ sym (lt-ltb c d (f (ltb-true a b e)))
    go false e = e ∙ sym (other (nat_lt c d) refl)
      where
        other : (t : Bool) → nat_lt c d ≡ t → nat_lt c d ≡ false
        other true k = let i = g (ltb-true c d k) in absurd (omega (arith, ltb-false a b e))
        other false k = k

-- Two signed numbers compare like their naturals when both have the same offset.
pub above_less : (o : ℕ) (y z : ℤ) (a b : ℕ) → Above o y a → Above o z b → int_lt y z ≡ nat_lt a b
above_less o (pos n) (pos m) a b e f = same_test n m a b (λ h. omega arith) (λ h. omega arith)
above_less o (pos n) (negsuc m) a b e f = sym (le-ltb a b (omega arith))
above_less o (negsuc n) (pos m) a b e f = sym (lt-ltb a b (omega arith))
above_less o (negsuc n) (negsuc m) a b e f = same_test m n a b (λ h. omega arith) (λ h. omega arith)

-- ---- the offset 2^32

pub above_fits : (z : ℤ) (x : ℕ) → Above (2 ^ 32) z x → is_signed32 z ≡ in_range x
above_fits (pos n) x e = rw (le-leb (2 ^ 31) x (omega arith)) (same_test n (2 ^ 31) x (2 ^ 32 + 2 ^ 31) (λ h. omega arith) (λ h. omega arith))
above_fits (negsuc n) x e = go (nat_le (2 ^ 31) x) refl
  where
    go : (t : Bool) → nat_le (2 ^ 31) x ≡ t → is_signed32 (negsuc n) ≡ in_range x
    go true h =
        let k = leb-true (2 ^ 31) x h in
        rw h (lt-ltb n (2 ^ 31) (omega arith) ∙ sym (lt-ltb x (2 ^ 32 + 2 ^ 31) (omega arith)))
    go false h = let k = leb-false (2 ^ 31) x h in rw h (le-ltb n (2 ^ 31) (omega arith))

pub above_bits : (z : ℤ) (x : ℕ) → Above (2 ^ 32) z x → is_signed32 z ≡ true → bits z ≡ x % 2 ^ 32
above_bits (pos n) x e h = let k = ltb-true n (2 ^ 31) h in omega arith
above_bits (negsuc n) x e h = let k = ltb-true n (2 ^ 31) h in omega arith

-- ---- sums, differences and the order of signed numbers, in unsigned arithmetic

abbrev Near : ℕ → ℕ → Type 0
Near a x = (x ≡ a + 2 ^ 31) ⊎ (x + 2 ^ 31 ≡ a)

near : (a : ℕ) → a < 2 ^ 32 → Near a (raised a)
near a h = go (nat_lt a (2 ^ 31)) refl
  where
    go : (t : Bool) → nat_lt a (2 ^ 31) ≡ t → Near a (raised a)
    go true e = let k = ltb-true a (2 ^ 31) e in inl (omega arith)
    go false e = let k = ltb-false a (2 ^ 31) e in inr (omega arith)

near_sum : (a b x y : ℕ) → Near a x → Near b y → (x + y) % 2 ^ 32 ≡ (a + b) % 2 ^ 32
near_sum a b x y (inl e) (inl f) = omega arith
near_sum a b x y (inl e) (inr f) = omega arith
near_sum a b x y (inr e) (inl f) = omega arith
near_sum a b x y (inr e) (inr f) = omega arith

near_difference : (a b x y : ℕ) → b < 2 ^ 32 → y < 2 ^ 32 → Near a x → Near b y → (x + (2 ^ 32 - y)) % 2 ^ 32 ≡ (a + 2 ^ 32 - b) % 2 ^ 32
near_difference a b x y hb hy (inl e) (inl f) = omega arith
near_difference a b x y hb hy (inl e) (inr f) = omega arith
near_difference a b x y hb hy (inr e) (inl f) = omega arith
near_difference a b x y hb hy (inr e) (inr f) = omega arith

module _ (a b : ℕ) (ha : a < 2 ^ 32) (hb : b < 2 ^ 32) where
  pub signed_order : int_lt (signed a) (signed b) ≡ nat_lt (raised a) (raised b)
  signed_order = above_less (2 ^ 31) (signed a) (signed b) (raised a) (raised b) (above_signed a ha) (above_signed b hb)

  sum : Above (2 ^ 32) (signed a +ℤ signed b) (raised a + raised b)
  sum = above_sum (2 ^ 31) (2 ^ 31) (signed a) (signed b) (raised a) (raised b) (above_signed a ha) (above_signed b hb)

  difference : Above (2 ^ 32) (signed a -ℤ signed b) (raised a + (2 ^ 32 - raised b))
  difference =
      above_sum (2 ^ 31) (2 ^ 31) (signed a) (neg_ℤ (signed b)) (raised a) (2 ^ 32 - raised b) (above_signed a ha)
      (above_neg (2 ^ 31) (2 ^ 32) (signed b) (raised b) (above_signed b hb) (omega arith) (omega arith))

  pub sum_fits : is_signed32 (signed a +ℤ signed b) ≡ in_range (raised a + raised b)
  sum_fits = above_fits (signed a +ℤ signed b) (raised a + raised b) sum

  pub difference_fits : is_signed32 (signed a -ℤ signed b) ≡ in_range (raised a + (2 ^ 32 - raised b))
  difference_fits = above_fits (signed a -ℤ signed b) (raised a + (2 ^ 32 - raised b)) difference

  pub sum_bits : is_signed32 (signed a +ℤ signed b) ≡ true → bits (signed a +ℤ signed b) ≡ (a + b) % 2 ^ 32
  sum_bits h =
      above_bits (signed a +ℤ signed b) (raised a + raised b) sum h ∙ near_sum a b (raised a) (raised b) (near a ha) (near b hb)

  pub difference_bits : is_signed32 (signed a -ℤ signed b) ≡ true → bits (signed a -ℤ signed b) ≡ (a + 2 ^ 32 - b) % 2 ^ 32
  difference_bits h =
      above_bits (signed a -ℤ signed b) (raised a + (2 ^ 32 - raised b)) difference h
      ∙ near_difference a b (raised a) (raised b) hb (omega arith) (near a ha) (near b hb)

-- a shift to the right, by the sign
pub shift_from : (a k : ℕ) → a < 2 ^ 31 → bits (shr_z (signed a) (2 ^ k)) ≡ a / 2 ^ k
shift_from a k h = rw (lt-ltb a (2 ^ 31) h)

pub shift_below : (a k : ℕ) → 2 ^ 31 ≤ a → bits (shr_z (signed a) (2 ^ k)) ≡ 2 ^ 32 - 1 - (2 ^ 32 - 1 - a) / 2 ^ k
shift_below a k h =
    let e : 2 ^ 32 - suc a ≡ 2 ^ 32 - 1 - a = omega arith in
    rw (le-ltb a (2 ^ 31) h) (rw e (omega arith))
