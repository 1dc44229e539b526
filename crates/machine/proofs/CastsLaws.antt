-- Signed numbers by casts. Assumes nothing.
use Rattle.std.specs.Prelude.{◌≡◌, ℕ, ◌<◌, Bool, true, false, nat_lt, refl}
use Rattle.std.proofs.Common.{arith, ltb-true, ltb-false, to_z, of_z}
use Rattle.std.specs.Int.{w16, w32}
use Rattle.loading.specs.Run.{signed16}

-- 16 bits signed, as 32 bits
pub signed16_is : (n : ℕ) → n < 65536 → of_z w32 (to_z w16 n) ≡ signed16 n
unfolding signed16
signed16_is n h = go (nat_lt n 32768) refl
  where
    go : (b : Bool) → nat_lt n 32768 ≡ b → of_z w32 (to_z w16 n) ≡ signed16 n
    go true e = let k = ltb-true n 32768 e in rw (e, signed16) (omega arith)
    go false e = let k = ltb-false n 32768 e in rw (e, signed16) (omega arith)
