-- The number that a text begins with (document 02, P7: "Numbers are decimal, or hexadecimal (either case) after `0x`; a number ends
-- before the first byte that is no digit of its kind"). Assumes nothing.
use Rattle.std.specs.Prelude.{ℕ, ◌+◌, ◌-◌, ◌*◌, ◌^◌, List, [], ◌∷◌, Bool, true, false, length, ltb, Option, Some, None}
use Prim.Native.Char.{code}
use Rattle.byte_class.specs.Class.{between}
use Rattle.text_pieces.specs.Leading.{leading}

abbrev or_else : Bool → ℕ → ℕ → ℕ
or_else true n later = n
or_else false n later = later

-- a digit's value, and 16 for a byte that is no digit
unfoldable pub digit_value : ℕ → ℕ
digit_value b = or_else (between "0" "9" b) (b - code "0") (or_else (between "a" "f" b) (b - code "a" + 10) (or_else (between "A" "F" b) (b - code "A" + 10) 16))

abbrev pub is_digit_of : (base : ℕ) → ℕ → Bool
is_digit_of base b = ltb (digit_value b) base

-- the value of n with these digits after it, the highest digit first
unfoldable pub value_from : (base n : ℕ) → List ℕ → ℕ
unfolding digit_value
value_from base n [] = n
value_from base n (d ∷ ds) = value_from base (n * base + digit_value d) ds

-- a value and how many digits it has; none for "a number over 64 bits"
abbrev pub within64 : (value digits : ℕ) → Option (ℕ × ℕ)
within64 value digits = elim (ltb value (2 ^ 64)) [ true ↦ Some (value, digits) | false ↦ None ]

unfoldable pub number_in : (base : ℕ) → List ℕ → Option (ℕ × ℕ)
unfolding value_from leading
number_in base s = let digits = leading (is_digit_of base) s in within64 (value_from base 0 digits) (length digits)
