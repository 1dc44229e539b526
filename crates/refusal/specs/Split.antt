-- The two parts of a signed number: `negsuc n` is -1 - n. Assumes nothing.
use Rattle.std.specs.Prelude.{ℕ, Bool, true, false, ℤ, pos, negsuc}

unfoldable pub is_negative : ℤ → Bool
is_negative (pos n) = false
is_negative (negsuc n) = true

unfoldable pub size : ℤ → ℕ
size (pos n) = n
size (negsuc n) = n
