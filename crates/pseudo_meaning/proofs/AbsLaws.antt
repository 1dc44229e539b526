-- The absolute value by a shift, an exclusive or and a difference. Assumes nothing.
use Rattle.std.specs.Prelude.{ℕ, suc, ◌+◌, ◌-◌, ◌*◌, ◌%◌, ◌^◌, ◌<◌, ◌≤◌, ◌≡◌, refl, Bool, true, false, ltb, nat_abs}
use Rattle.std.proofs.Common.{arith, ap, ◌∙◌, ltb-true, ltb-false}
use Rattle.std.specs.Int.Bits.{bit_and, bit_xor, xor_zero_r, xor_add_and}
use Rattle.std.proofs.lemmas.Nat.{and_mask}
use Rattle.std.specs.Int.Signed.{shr_z}
use Rattle.field.specs.Wrap.{wrap32}
use Rattle.machine.specs.Numbers.{signed, bits}
use Rattle.machine.proofs.NumbersLaws.{shift_from, shift_below}

-- 0 or 2^32 - 1, by the sign
abbrev pub spread : ℕ → ℕ
spread a = bits (shr_z (signed a) (2 ^ 31))

xor_all : (a : ℕ) → a < 2 ^ 32 → bit_xor a (2 ^ 32 - 1) ≡ 2 ^ 32 - 1 - a
xor_all a h =
    let m : bit_and a (2 ^ 32 - 1) ≡ a % 2 ^ 32 = and_mask a 32 in
    let s : bit_xor a (2 ^ 32 - 1) + bit_and a (2 ^ 32 - 1) * 2 ≡ a + (2 ^ 32 - 1) = xor_add_and a (2 ^ 32 - 1) in
    omega arith

pub abs_value : (a : ℕ) → a < 2 ^ 32 → wrap32 (bit_xor a (spread a) + 2 ^ 32 - spread a) ≡ wrap32 (nat_abs (signed a))
abs_value a h = go (ltb a (2 ^ 31)) refl
  where
    go : (b : Bool) → ltb a (2 ^ 31) ≡ b → wrap32 (bit_xor a (spread a) + 2 ^ 32 - spread a) ≡ wrap32 (nat_abs (signed a))
    go true e =
        let k : a < 2 ^ 31 = ltb-true a (2 ^ 31) e in
        let z : spread a ≡ 0 = shift_from a 31 k ∙ omega arith in
        let n : nat_abs (signed a) ≡ a = rw e in
        ap (λ (s : ℕ). wrap32 (bit_xor a s + 2 ^ 32 - s)) z ∙ ap (λ (x : ℕ). wrap32 (x + 2 ^ 32 - 0)) (xor_zero_r a) ∙ omega (arith, n)
    go false e =
        let k : 2 ^ 31 ≤ a = ltb-false a (2 ^ 31) e in
        let z : spread a ≡ 2 ^ 32 - 1 = shift_below a 31 k ∙ omega arith in
        let n : nat_abs (signed a) ≡ suc (2 ^ 32 - suc a) = rw e in
        ap (λ (s : ℕ). wrap32 (bit_xor a s + 2 ^ 32 - s)) z ∙ ap (λ (x : ℕ). wrap32 (x + 2 ^ 32 - (2 ^ 32 - 1))) (xor_all a h) ∙ omega (arith, n)
