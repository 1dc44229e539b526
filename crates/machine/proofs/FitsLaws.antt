-- What every word keeps: 32 registers of 32 bits, a pc of 32 bits, a pc that is a multiple of four. Assumes nothing.
use Rattle.std.specs.Prelude.{◌≡◌, ℕ, zero, suc, ◌+◌, ◌%◌, ◌^◌, ◌<◌, Bool, true, false, cond, not, List, [], ◌∷◌, ℤ, pos, negsuc, ◌+ℤ◌, ◌-ℤ◌, ◌==◌, int_lt, nat_lt, slice_index, slice_set, refl}
use Rattle.std.proofs.Common.{div-le_self, arith, ◌∙◌, ltb-true, ltb-false}
use Rattle.std.proofs.lemmas.Nat.{or_lt, xor_lt}
use Rattle.std.specs.Int.Signed.{shr_z}
use Rattle.field.specs.Field.{get_field}
use Rattle.field.specs.Bit.{bit}
use Rattle.loading.specs.Run.{Registers, read_register, write_register, signed16}
use Rattle.loading.proofs.Loading.{length_write}
use Rattle.machine.specs.Instructions.{rs, rt, rd, sa, immediate, target, instruction_of}
use Rattle.machine.specs.Numbers.{signed, bits, is_signed32}
use Rattle.machine.proofs.NumbersLaws.{shift_from, shift_below}
use Rattle.machine.specs.Effects.{branch_if, unless_overflow, effect_of}
use Rattle.machine.specs.Step.{apply, effect_on, step_word}
use Rattle.machine.proofs.StepLaws.{After}
use Rattle.machine.specs.Fits.{Fits, Aligned}
use Rattle.machine.specs.declared.Effect.{Effect}
use Rattle.machine.specs.declared.Effect.TheVariants.{SetRt, SetRd, Go, Overflows, Unknown}
use Rattle.machine.specs.declared.Instruction.{Instruction}
use Rattle.machine.specs.declared.Instruction.TheVariants.{Nop, Addiu, Addi, Add, Addu, Sub, Subu, Slt, Sltu, Ori, Xori, Xor, Nor, Lui, Sra, Beq, Bne, J, Other}
use Rattle.machine.specs.declared.Machine.{Machine}

-- ---- what an instruction sets, and where it goes

abbrev EffectFits : Effect → Type 0
EffectFits (SetRt v) = v < 2 ^ 32
EffectFits (SetRd v) = v < 2 ^ 32
EffectFits (Go pc) = pc < 2 ^ 32
EffectFits Overflows = Unit {0}
EffectFits Unknown = Unit {0}

bits_fit : (z : ℤ) → is_signed32 z ≡ true → bits z < 2 ^ 32
bits_fit (pos n) h = let k = ltb-true n (2 ^ 31) h in omega arith
bits_fit (negsuc n) h = omega arith

-- a sum or difference into rt or rd
checked_fits : (into : ℕ → Effect) → ((v : ℕ) → v < 2 ^ 32 → EffectFits (into v)) → (z : ℤ) → EffectFits (unless_overflow into z)
checked_fits into f z = go (is_signed32 z) refl
  where
    go : (b : Bool) → is_signed32 z ≡ b → EffectFits (cond b (into (bits z)) Overflows)
    go true e = f (bits z) (bits_fit z e)
    go false e = tt

bit_fits : (b : Bool) → bit b < 2 ^ 32
bit_fits true = omega arith
bit_fits false = omega arith

branch_fits : (taken : Bool) (pc w : ℕ) → EffectFits (branch_if taken pc w)
branch_fits true pc w = omega arith
branch_fits false pc w = omega arith

shift_fits : (t k : ℕ) → t < 2 ^ 32 → bits (shr_z (signed t) (2 ^ k)) < 2 ^ 32
shift_fits t k h = go (nat_lt t (2 ^ 31)) refl
  where
    go : (b : Bool) → nat_lt t (2 ^ 31) ≡ b → bits (shr_z (signed t) (2 ^ k)) < 2 ^ 32
    go true e = rw (shift_from t k (ltb-true t (2 ^ 31) e)) (omega (arith, div-le_self t (2 ^ k)))
    go false e = rw (shift_below t k (ltb-false t (2 ^ 31) e)) (omega arith)

immediate_fits : (w : ℕ) → immediate w < 65536
unfolding get_field
immediate_fits w = omega arith

target_fits : (w : ℕ) → target w < 2 ^ 26
unfolding get_field
target_fits w = omega arith

effect_fits : (i : Instruction) (w pc s t : ℕ) → s < 2 ^ 32 → t < 2 ^ 32 → EffectFits (effect_of i w pc s t)
unfolding effect_of
effect_fits Nop w pc s t hs ht = omega arith
effect_fits Addiu w pc s t hs ht = omega arith
effect_fits Addi w pc s t hs ht = checked_fits SetRt (λ v h. h) (signed s +ℤ signed (signed16 (immediate w)))
effect_fits Add w pc s t hs ht = checked_fits SetRd (λ v h. h) (signed s +ℤ signed t)
effect_fits Addu w pc s t hs ht = omega arith
effect_fits Sub w pc s t hs ht = checked_fits SetRd (λ v h. h) (signed s -ℤ signed t)
effect_fits Subu w pc s t hs ht = omega arith
effect_fits Slt w pc s t hs ht = bit_fits (int_lt (signed s) (signed t))
effect_fits Sltu w pc s t hs ht = bit_fits (nat_lt s t)
effect_fits Ori w pc s t hs ht = or_lt 32 s (immediate w) hs (omega (arith, immediate_fits w))
effect_fits Xori w pc s t hs ht = xor_lt 32 s (immediate w) hs (omega (arith, immediate_fits w))
effect_fits Xor w pc s t hs ht = xor_lt 32 s t hs ht
effect_fits Nor w pc s t hs ht = omega arith
effect_fits Lui w pc s t hs ht = omega (arith, immediate_fits w)
effect_fits Sra w pc s t hs ht = shift_fits t (sa w) ht
effect_fits Beq w pc s t hs ht = branch_fits (s == t) pc w
effect_fits Bne w pc s t hs ht = branch_fits (not (s == t)) pc w
effect_fits J w pc s t hs ht = omega (arith, target_fits w)
effect_fits Other w pc s t hs ht = tt

-- ---- a step of a machine whose registers fit

pub set_fits : (g : List ℕ) (r v i : ℕ) → ((k : ℕ) → slice_index g k < 2 ^ 32) → v < 2 ^ 32 → slice_index (slice_set g r v) i < 2 ^ 32
set_fits [] r v i h hv = h i
set_fits (x ∷ g) zero v zero h hv = hv
set_fits (x ∷ g) zero v (suc i) h hv = h (suc i)
set_fits (x ∷ g) (suc r) v zero h hv = h 0
set_fits (x ∷ g) (suc r) v (suc i) h hv = set_fits g r v i (λ k. h (suc k)) hv

write_fits : (g : Registers) (r v i : ℕ) → ((k : ℕ) → slice_index g k < 2 ^ 32) → v < 2 ^ 32 → slice_index (write_register g r v) i < 2 ^ 32
unfolding write_register
write_fits g r v i h hv = go (r == 0) refl
  where
    go : (b : Bool) → (r == 0) ≡ b → slice_index (write_register g r v) i < 2 ^ 32
    go true e = rw (e, write_register) (h i)
    go false e = rw (e, write_register) (set_fits g r v i h hv)

read_fits : (g : Registers) (r : ℕ) → ((k : ℕ) → slice_index g k < 2 ^ 32) → read_register g r < 2 ^ 32
unfolding read_register
read_fits g r h = go (r == 0) refl
  where
    go : (b : Bool) → (r == 0) ≡ b → read_register g r < 2 ^ 32
    go true e = rw (e, read_register) (omega arith)
    go false e = rw (e, read_register) (h r)

set_machine : (m : Machine) (r v : ℕ) → Fits m → v < 2 ^ 32 → Fits (record { pc = (m.pc + 4) % 2 ^ 32; registers = write_register m.registers r v })
set_machine m r v f h = record {
  count = length_write m.registers r v ∙ f.count;
  held = λ i. write_fits m.registers r v i f.held h;
  pc_held = omega arith;
}

apply_fits : (e : Effect) (w : ℕ) (m : Machine) → Fits m → EffectFits e → After Fits (apply e w m)
apply_fits (SetRt v) w m f h = set_machine m (rt w) v f h
apply_fits (SetRd v) w m f h = set_machine m (rd w) v f h
apply_fits (Go pc) w m f h = record { count = f.count; held = f.held; pc_held = h }
apply_fits Overflows w m f h = tt
apply_fits Unknown w m f h = tt

pub word_fits : (w : ℕ) (m : Machine) → Fits m → After Fits (step_word w m)
unfolding step_word
word_fits w m f =
    let s = read_register m.registers (rs w) in
    let t = read_register m.registers (rt w) in
    apply_fits (effect_on w m) w m f (effect_fits (instruction_of w) w m.pc s t (read_fits m.registers (rs w) f.held) (read_fits m.registers (rt w) f.held))

-- ---- a step from a multiple of four

abbrev GoesAligned : Effect → Type 0
GoesAligned (SetRt v) = Unit {0}
GoesAligned (SetRd v) = Unit {0}
GoesAligned (Go pc) = pc % 4 ≡ 0
GoesAligned Overflows = Unit {0}
GoesAligned Unknown = Unit {0}

checked_aligned : (into : ℕ → Effect) → ((v : ℕ) → GoesAligned (into v)) → (z : ℤ) → GoesAligned (unless_overflow into z)
checked_aligned into f z = go (is_signed32 z)
  where
    go : (b : Bool) → GoesAligned (cond b (into (bits z)) Overflows)
    go true = f (bits z)
    go false = tt

branch_aligned : (taken : Bool) (pc w : ℕ) → pc % 4 ≡ 0 → GoesAligned (branch_if taken pc w)
branch_aligned true pc w h = omega arith
branch_aligned false pc w h = omega arith

effect_aligned : (i : Instruction) (w pc s t : ℕ) → pc % 4 ≡ 0 → GoesAligned (effect_of i w pc s t)
unfolding effect_of
effect_aligned Nop w pc s t h = omega arith
effect_aligned Addiu w pc s t h = tt
effect_aligned Addi w pc s t h = checked_aligned SetRt (λ v. tt) (signed s +ℤ signed (signed16 (immediate w)))
effect_aligned Add w pc s t h = checked_aligned SetRd (λ v. tt) (signed s +ℤ signed t)
effect_aligned Addu w pc s t h = tt
effect_aligned Sub w pc s t h = checked_aligned SetRd (λ v. tt) (signed s -ℤ signed t)
effect_aligned Subu w pc s t h = tt
effect_aligned Slt w pc s t h = tt
effect_aligned Sltu w pc s t h = tt
effect_aligned Ori w pc s t h = tt
effect_aligned Xori w pc s t h = tt
effect_aligned Xor w pc s t h = tt
effect_aligned Nor w pc s t h = tt
effect_aligned Lui w pc s t h = tt
effect_aligned Sra w pc s t h = tt
effect_aligned Beq w pc s t h = branch_aligned (s == t) pc w h
effect_aligned Bne w pc s t h = branch_aligned (not (s == t)) pc w h
effect_aligned J w pc s t h = omega arith
effect_aligned Other w pc s t h = tt

apply_aligned : (e : Effect) (w : ℕ) (m : Machine) → Aligned m → GoesAligned e → After Aligned (apply e w m)
apply_aligned (SetRt v) w m a h = omega arith
apply_aligned (SetRd v) w m a h = omega arith
apply_aligned (Go pc) w m a h = h
apply_aligned Overflows w m a h = tt
apply_aligned Unknown w m a h = tt

pub word_aligned : (w : ℕ) (m : Machine) → Aligned m → After Aligned (step_word w m)
unfolding step_word
word_aligned w m a =
    apply_aligned (effect_on w m) w m a (effect_aligned (instruction_of w) w m.pc (read_register m.registers (rs w)) (read_register m.registers (rt w)) a)
