-- A checked sum or difference, and the difference that wraps. Assumes nothing.
use Rattle.std.specs.Prelude.{◌≡◌, ℕ, ◌+◌, ◌-◌, ◌*◌, ◌%◌, ◌^◌, ◌<◌, Bool, true, false, cond, ℤ, refl}
use Rattle.std.proofs.Common.{arith}
use Rattle.machine.specs.Numbers.{bits, is_signed32}
use Rattle.machine.specs.Effects.{unless_overflow}
use Rattle.machine.specs.declared.Effect.{Effect}
use Rattle.machine.specs.declared.Effect.TheVariants.{Overflows}

pub checked : (set : ℕ → Effect) (z : ℤ) (v : ℕ) → (is_signed32 z ≡ true → bits z ≡ v) → cond (is_signed32 z) (set v) Overflows ≡ unless_overflow set z
checked set z v h = go (is_signed32 z) h
  where
    go : (t : Bool) → (t ≡ true → bits z ≡ v) → cond t (set v) Overflows ≡ cond t (set (bits z)) Overflows
    go true k = rw (k refl)
    go false k = refl

pub wraps_back : (r a b : ℕ) → r < 2 ^ 32 → b < 2 ^ 32 → (r + b) % 2 ^ 32 ≡ a → r ≡ (a + 2 ^ 32 - b) % 2 ^ 32
wraps_back r a b hr hb e = omega arith

-- Modulo 2^32, four times a number needs only its low 30 bits.
pub four_times : (p m : ℕ) → (p + m % 2 ^ 30 * 4) % 2 ^ 32 ≡ (p + 4 * m) % 2 ^ 32
four_times p m = omega arith
