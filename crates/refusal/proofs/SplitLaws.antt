-- A number's two parts, from its sign and its absolute value. Assumes nothing.
use Rattle.std.specs.Prelude.{ℕ, suc, ◌-◌, ◌<◌, ◌^◌, ◌≡◌, refl, Bool, true, false, T, ℤ, pos, negsuc, nat_abs, ◌-ℤ◌}
use Rattle.std.proofs.Common.{arith, ap, ltb-true, le-ltb, SFits, ◌∙◌}
use Rattle.std.specs.Int.Signed.{lt_z, non_neg}
use Rattle.std.specs.Int.{w64}
use Rattle.std.specs.Int as std
use mir.Val.{bool_byte}
use Rattle.refusal.specs.Split.{is_negative, size}

pub small : (z : ℤ) → SFits w64 z → size z < 2 ^ 63
unfolding size
small (pos n) f = f.sfits
small (negsuc n) f = f.sfits

same_sign : (z : ℤ) → std.is_negative z ≡ is_negative z
unfolding is_negative
same_sign (pos n) = le-ltb n 0 (omega arith)
same_sign (negsuc n) = refl

size_is : (z : ℤ) → nat_abs z - bool_byte (std.is_negative z) ≡ size z
unfolding size is_negative
size_is (pos n) = rw (same_sign (pos n), is_negative) (omega arith)
size_is (negsuc n) = omega arith

pub parts : (z : ℤ) {negative : Bool} {bit magnitude : ℕ} → SFits w64 z → negative ≡ std.is_negative z → bit ≡ bool_byte negative → magnitude ≡ nat_abs z
    → (negative ≡ is_negative z) × (magnitude - bit ≡ size z) × (magnitude - bit < 2 ^ 63)
parts z {negative} {bit} {magnitude} f p q r =
    let d : magnitude - bit ≡ size z = rw (r, q, p) (size_is z) in
    (p ∙ same_sign z, d, rw d (small z f))

-- The parts, when the test of the sign says negative.
pub record Below (z : ℤ) : Type 0 where
  pub negative : true ≡ is_negative z
  pub turned : negsuc 0 -ℤ z ≡ pos (size z)

pub below_zero : (z : ℤ) → lt_z z (pos 0) ≡ true → Below z
unfolding is_negative size
below_zero (pos n) h = absurd (omega (arith, ltb-true n 0 h))
below_zero (negsuc n) h = record { negative = refl; turned = rw (le-ltb (suc n) 1 (omega arith)) (ap pos (omega arith)) }

pub record From (z : ℤ) : Type 0 where
  pub positive : false ≡ is_negative z
  pub kept : nat_abs z ≡ size z
  pub sign : T (non_neg z)

pub from_zero : (z : ℤ) → lt_z z (pos 0) ≡ false → From z
unfolding is_negative size
from_zero (pos n) h = record { positive = refl; kept = refl; sign = tt }
from_zero (negsuc n) h = let z : ◌≡◌ {A = ℕ} 0 1 = cc in absurd (omega arith)
