-- What each comparison says about two 32-bit values (document 02, P11: "the comparison of 32-bit values"). Assumes nothing.
use Rattle.std.specs.Prelude.{ℕ, Bool, true, false}
use Rattle.std.specs.Int.Signed.{lt_z, le_z}
use Rattle.machine.specs.Numbers.{signed}

-- A pseudo-instruction that compares has two flags, as in the Rust: greater_than and result_true.
abbrev pub compares : (greater result : Bool) → (a b : ℕ) → Bool
-- blt: a is less than b
compares false true a b = lt_z (signed a) (signed b)
-- bgt, sgt: a is greater than b
compares true true a b = lt_z (signed b) (signed a)
-- ble, sle: a is less than or equal to b
compares true false a b = le_z (signed a) (signed b)
-- bge, sge: a is greater than or equal to b
compares false false a b = le_z (signed b) (signed a)
