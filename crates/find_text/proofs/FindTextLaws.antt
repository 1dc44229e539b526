-- How long the line of an address is. Assumes nothing.
use Rattle.std.specs.Prelude.{None, Option, Some, ℕ}
use Rattle.std.proofs.Common.{◌≡◌, ◌≤◌, length, refl, arith}
use Rattle.find_text.specs.FindText.{address_line}

pub address_most : (a : Option ℕ) → length (address_line a) ≤ 15
address_most (Some v) = let e : length (address_line (Some v)) ≡ 15 = refl in omega arith
address_most None = let e : length (address_line None) ≡ 5 = refl in omega arith
