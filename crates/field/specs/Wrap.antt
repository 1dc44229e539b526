-- The low 32 bits of a number: a sum of 32 bits wraps at 2^32 (document 01). Assumes nothing.
use Rattle.std.specs.Prelude.{ℕ, ◌%◌, ◌^◌}

abbrev pub wrap32 : ℕ → ℕ
wrap32 n = n % 2 ^ 32
