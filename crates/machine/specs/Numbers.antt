-- Numbers of 32 bits, unsigned and signed. Assumes nothing.
use Rattle.std.specs.Prelude.{ℕ, ◌%◌, ◌^◌, Bool, ℤ, nat_lt, ◌+◌, ◌&&◌, nat_le}
use Rattle.std.specs.Int.Signed.{mag}
use Rattle.std.specs.Int.{w32}
use Rattle.std.proofs.Common.{to_z, of_z}

-- 32 bits read as a two's complement number, and such a number's 32 bits
abbrev pub signed : ℕ → ℤ
signed n = to_z w32 n

abbrev pub bits : ℤ → ℕ
bits z = of_z w32 z

-- z is from -2^31 to 2^31 - 1: `mag` gives n for both n and -1 - n
abbrev pub is_signed32 : ℤ → Bool
is_signed32 z = nat_lt (mag z) (2 ^ 31)

-- the signed number that n's 32 bits stand for, plus 2^31
abbrev pub raised : ℕ → ℕ
raised n = (n + 2 ^ 31) % 2 ^ 32

-- x is a signed sum plus 2^32: does the sum fit 32 bits?
abbrev pub in_range : ℕ → Bool
in_range x = nat_le (2 ^ 31) x && nat_lt x (2 ^ 32 + 2 ^ 31)
