-- What the eighteen instructions do (MIPS32 Architecture For Programmers, Volume II), without delay slots. Assumes nothing.
use Rattle.std.specs.Prelude.{ℕ, ◌+◌, ◌-◌, ◌*◌, ◌/◌, ◌^◌, Bool, cond, not, ℤ, ◌+ℤ◌, ◌-ℤ◌, ◌==◌, bit_or, bit_xor, int_lt, nat_lt}
use Rattle.std.specs.Int.Signed.{shr_z}
use Rattle.field.specs.Wrap.{wrap32}
use Rattle.field.specs.Bit.{bit}
use Rattle.loading.specs.Run.{signed16}
use Rattle.machine.specs.Instructions.{sa, immediate, target}
use Rattle.machine.specs.Numbers.{signed, bits, is_signed32}
use Rattle.machine.specs.declared.Instruction.{Instruction}
use Rattle.machine.specs.declared.Instruction.TheVariants.{Nop, Addiu, Addi, Add, Addu, Sub, Subu, Slt, Sltu, Ori, Xori, Xor, Nor, Lui, Sra, Beq, Bne, J, Other}
use Rattle.machine.specs.declared.Effect.{Effect}
use Rattle.machine.specs.declared.Effect.TheVariants.{SetRt, SetRd, Go, Overflows, Unknown}

-- ---- where a run goes on

abbrev pub next_pc : ℕ → ℕ
next_pc pc = wrap32 (pc + 4)

-- "Branch: pc+4 plus four times the word's low 16 bits signed, wrapping. Jump: top four bits of pc+4, then the low 26 bits times four."
abbrev pub branch_target : (pc w : ℕ) → ℕ
branch_target pc w = wrap32 (next_pc pc + 4 * signed16 (immediate w))

abbrev pub jump_target : (pc w : ℕ) → ℕ
jump_target pc w = next_pc pc / 2 ^ 28 * 2 ^ 28 + target w * 4

abbrev pub branch_if : Bool → (pc w : ℕ) → Effect
branch_if taken pc w = cond taken (Go (branch_target pc w)) (Go (next_pc pc))

-- ---- "signed overflow of add, addi or sub"

abbrev pub unless_overflow : (ℕ → Effect) → ℤ → Effect
unless_overflow set z = cond (is_signed32 z) (set (bits z)) Overflows

-- ---- the table: w is the word, s and t what the registers rs and rt hold; a row sets a register and goes on to the next word, or goes to a pc

unfoldable pub effect_of : Instruction → (w pc s t : ℕ) → Effect
unfolding signed16
effect_of Nop w pc s t = Go (next_pc pc)
effect_of Addiu w pc s t = SetRt (wrap32 (s + signed16 (immediate w)))
effect_of Addi w pc s t = unless_overflow SetRt (signed s +ℤ signed (signed16 (immediate w)))
effect_of Add w pc s t = unless_overflow SetRd (signed s +ℤ signed t)
effect_of Addu w pc s t = SetRd (wrap32 (s + t))
effect_of Sub w pc s t = unless_overflow SetRd (signed s -ℤ signed t)
effect_of Subu w pc s t = SetRd (wrap32 (s + 2 ^ 32 - t))
effect_of Slt w pc s t = SetRd (bit (int_lt (signed s) (signed t)))
effect_of Sltu w pc s t = SetRd (bit (nat_lt s t))
effect_of Ori w pc s t = SetRt (bit_or s (immediate w))
effect_of Xori w pc s t = SetRt (bit_xor s (immediate w))
effect_of Xor w pc s t = SetRd (bit_xor s t)
effect_of Nor w pc s t = SetRd (2 ^ 32 - 1 - bit_or s t)
effect_of Lui w pc s t = SetRt (immediate w * 65536)
-- an arithmetic shift: divides by 2^sa, rounding down
effect_of Sra w pc s t = SetRd (bits (shr_z (signed t) (2 ^ sa w)))
effect_of Beq w pc s t = branch_if (s == t) pc w
effect_of Bne w pc s t = branch_if (not (s == t)) pc w
effect_of J w pc s t = Go (jump_target pc w)
effect_of Other w pc s t = Unknown
