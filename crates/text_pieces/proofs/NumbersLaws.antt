-- Laws of the number that a text begins with, digit by digit. Assumes nothing.
use Prim.Native.Nat.{ℕ, suc, ◌+◌, ◌-◌, ◌*◌, ◌^◌, ◌≤◌, ◌<◌}
use Prim.Native.Char.{Char, code}
use Rattle.std.proofs.Common.{le-mul_of_pos_right, le_trans, ◌∙◌}
use native.Mathlib.Omega.{arith}
use Rattle.std.specs.Prelude.{Option, Some, None, List, [], ◌∷◌, Bool, ◌&&◌, drop, leb}
use Rattle.std.proofs.Math.Bool.{true, false}
use Rattle.std.proofs.Math.Path.{◌≡◌, refl, ap}
use Rattle.std.proofs.Math.ListN.{length}
use Rattle.std.proofs.Math.Dec.{ltb}
use borrow.Author.Tests.{lt-ltb, le-ltb, le-leb, lt-leb, ltb-true, ltb-false}
use Rattle.record.specs.Bytes.{byte_at}
use Rattle.byte_class.specs.Class.{between}
use Rattle.text_pieces.specs.Leading.{leading}
use Rattle.text_pieces.proofs.LeadingLaws.{leading_next, leading_stop, leading_end}
use Rattle.text_pieces.specs.Numbers.{digit_value, is_digit_of, value_from, within64, number_in}

-- The number that a value of n digits and these further digits make.
abbrev pub number_from : (base value n : ℕ) → List ℕ → Option (ℕ × ℕ)
number_from base value n ds = within64 (value_from base value ds) (n + length ds)

-- The digits of the text from a place on.
abbrev pub digits_at : (base : ℕ) → List ℕ → ℕ → List ℕ
digits_at base s i = leading (is_digit_of base) (drop i s)

pub number_start : (base : ℕ) (s : List ℕ) → number_from base 0 0 (digits_at base s 0) ≡ number_in base s
unfolding number_in
number_start base s =
    let ds = leading (is_digit_of base) s in
    let n : 0 + length ds ≡ length ds = omega arith in
    ap (within64 (value_from base 0 ds)) n

-- More digits never make a number smaller.
value_ge : (base value : ℕ) (ds : List ℕ) → 0 < base → value ≤ value_from base value ds
unfolding value_from
value_ge base value [] h = omega arith
value_ge base value (d ∷ ds) h =
    let m = le-mul_of_pos_right value h in
    le_trans (omega arith) (value_ge base (value * base + digit_value d) ds h)

is_value : (value digits : ℕ) → value < 2 ^ 64 → within64 value digits ≡ Some (value, digits)
is_value value digits h = rw (lt-ltb value (2 ^ 64) h, within64)

is_over : (value digits : ℕ) → 2 ^ 64 ≤ value → within64 value digits ≡ None
is_over value digits h = rw (le-ltb value (2 ^ 64) h, within64)

none : (base value n : ℕ) → value < 2 ^ 64 → number_from base value n [] ≡ Some (value, n)
unfolding value_from
none base value n h =
    let z : n + 0 ≡ n = omega arith in
    ap (within64 value) z ∙ is_value value n h

module _ (base : ℕ) (s : List ℕ) (i value n : ℕ) where
  pub number_end : length s ≤ i → value < 2 ^ 64 → number_from base value n (digits_at base s i) ≡ Some (value, n)
  number_end h v = ap (number_from base value n) (leading_end (is_digit_of base) s i h) ∙ none base value n v

  module _ (h : i < length s) where
    abbrev d : ℕ
    d = digit_value (byte_at s i)

    pub number_stop : base ≤ d → value < 2 ^ 64 → number_from base value n (digits_at base s i) ≡ Some (value, n)
    number_stop e v = ap (number_from base value n) (leading_stop (is_digit_of base) s i h (le-ltb d base e)) ∙ none base value n v

    module _ (e : d < base) where
      more : digits_at base s i ≡ byte_at s i ∷ digits_at base s (i + 1)
      more = leading_next (is_digit_of base) s i h (lt-ltb d base e)

      pub number_next : number_from base value n (digits_at base s i) ≡ number_from base (value * base + d) (n + 1) (digits_at base s (i + 1))
      unfolding value_from
      number_next =
          let ds = digits_at base s (i + 1) in
          let m : n + suc (length ds) ≡ n + 1 + length ds = omega arith in
          ap (number_from base value n) more ∙ ap (within64 (value_from base (value * base + d) ds)) m

      pub number_over : 0 < base → 2 ^ 64 ≤ value * base + d → number_from base value n (digits_at base s i) ≡ None
      number_over p o =
          let ds = digits_at base s (i + 1) in
          number_next ∙ is_over (value_from base (value * base + d) ds) (n + 1 + length ds) (le_trans o (value_ge base (value * base + d) ds p))

-- ---- the value of a digit, by its range
below : (c d : Char) (b : ℕ) → b < code c → between c d b ≡ false
below c d b h = rw (lt-leb (code c) b h)

above : (c d : Char) (b : ℕ) → code d < b → between c d b ≡ false
above c d b h = go (leb (code c) b)
  where
    go : (t : Bool) → (t && leb b (code d)) ≡ false
    go true = lt-leb b (code d) h
    go false = refl

inside : (c d : Char) (b : ℕ) → code c ≤ b → b ≤ code d → between c d b ≡ true
inside c d b h k = rw (le-leb (code c) b h, le-leb b (code d) k)

module _ (b : ℕ) where
  pub digit_decimal : 48 ≤ b → b ≤ 57 → digit_value b ≡ b - 48
  unfolding digit_value
  digit_decimal h k = rw (inside "0" "9" b h k)

  pub digit_lower : 97 ≤ b → b ≤ 102 → digit_value b ≡ b - 87
  unfolding digit_value
  digit_lower h k = rw (above "0" "9" b (omega arith), inside "a" "f" b h k) (omega arith)

  pub digit_upper : 65 ≤ b → b ≤ 70 → digit_value b ≡ b - 55
  unfolding digit_value
  digit_upper h k = rw (above "0" "9" b (omega arith), below "a" "f" b (omega arith), inside "A" "F" b h k) (omega arith)

  none_of : between "0" "9" b ≡ false → between "a" "f" b ≡ false → between "A" "F" b ≡ false → digit_value b ≡ 16
  unfolding digit_value
  none_of p q r = rw (p, q, r)

  pub digit_below : b < 48 → digit_value b ≡ 16
  digit_below h = none_of (below "0" "9" b h) (below "a" "f" b (omega arith)) (below "A" "F" b (omega arith))

  pub digit_between : 57 < b → b < 65 → digit_value b ≡ 16
  digit_between h k = none_of (above "0" "9" b h) (below "a" "f" b (omega arith)) (below "A" "F" b k)

  pub digit_middle : 70 < b → b < 97 → digit_value b ≡ 16
  digit_middle h k = none_of (above "0" "9" b (omega arith)) (below "a" "f" b k) (above "A" "F" b h)

  pub digit_above : 102 < b → digit_value b ≡ 16
  digit_above h = none_of (above "0" "9" b (omega arith)) (above "a" "f" b h) (above "A" "F" b (omega arith))

-- ---- what a value says
module _ (base : ℕ) (s : List ℕ) (value n : ℕ) (e : number_in base s ≡ Some (value, n)) where
  abbrev digits : List ℕ
  digits = leading (is_digit_of base) s

  pub number_is : (value < 2 ^ 64) × (n ≡ length digits)
  unfolding number_in
  number_is = go (ltb (value_from base 0 digits) (2 ^ 64)) refl
    where
      go : (t : Bool) → ltb (value_from base 0 digits) (2 ^ 64) ≡ t → (value < 2 ^ 64) × (n ≡ length digits)
      go true f =
          let h = ltb-true (value_from base 0 digits) (2 ^ 64) f in
          let i = is_value (value_from base 0 digits) (length digits) h in
          let pair : (value, n) ≡ (value_from base 0 digits, length digits) = cc in
          let same : value ≡ value_from base 0 digits = ap (λ (p : ℕ × ℕ). p.0) pair in
          (omega arith, ap (λ (p : ℕ × ℕ). p.1) pair)
      go false f =
          let i = is_over (value_from base 0 digits) (length digits) (ltb-false (value_from base 0 digits) (2 ^ 64) f) in
          let z : ◌≡◌ {A = ℕ} 0 1 = cc in
          absurd (omega arith)
