-- The word of each encoding, by the manual's fields. Register operands are numbers. Assumes nothing.
use Rattle.std.specs.Prelude.{ℕ, ◌+◌, ◌*◌, ◌/◌, ◌%◌, Bool, true, false}
use Rattle.std.specs.Int.Bits.{bit_or}
use Rattle.instructions.specs.declared.Opcode.{Opcode}
use Rattle.jobs.specs.declared.Format.{Format}
use Rattle.jobs.specs.Jobs.{size_code}
use Rattle.word.specs.Layout.{layout, immediate_layout, base_fields, with_rs, with_rt, with_rd, with_sa}

-- opcode or function alone: Jump and Parameterless
abbrev pub base_word : Opcode → ℕ
base_word op = layout (base_fields op)

-- Source, SpecialBranch, BranchZero
abbrev pub source_word : Opcode → (rs : ℕ) → ℕ
source_word op rs = layout (with_rs (base_fields op) rs)

-- Destination
abbrev pub destination_word : Opcode → (rd : ℕ) → ℕ
destination_word op rd = layout (with_rd (base_fields op) rd)

-- Inputs, Branch
abbrev pub inputs_word : Opcode → (rs rt : ℕ) → ℕ
inputs_word op rs rt = layout (with_rt (with_rs (base_fields op) rs) rt)

-- Register, RegisterShift
abbrev pub register_word : Opcode → (rd rs rt : ℕ) → ℕ
register_word op rd rs rt = layout (with_rt (with_rs (with_rd (base_fields op) rd) rs) rt)

-- Sham. "shift amounts over 31 spill into rd": the field sa has five bits, and the bits above are OR-ed into rd.
abbrev pub sham_word : Opcode → (rd rt sham : ℕ) → ℕ
sham_word op rd rt sham = layout (with_sa (with_rd (with_rt (base_fields op) rt) (bit_or rd (sham / 32))) (sham % 32))

-- Immediate, Offset
abbrev pub immediate_word : Opcode → (rs rt immediate : ℕ) → ℕ
immediate_word op rs rt immediate = immediate_layout (base_fields op).opcode rs rt immediate

-- LoadImmediate
abbrev pub load_immediate_word : Opcode → (rt immediate : ℕ) → ℕ
load_immediate_word op rt immediate = immediate_layout (base_fields op).opcode (base_fields op).rs rt immediate

-- ---- the float formats: fmt, ft, fs and fd stand where rs, rt, rd and sa do

abbrev pub fp3_word : Opcode → Format → (fd fs ft : ℕ) → ℕ
fp3_word op fmt fd fs ft = layout (with_rs (with_rt (with_rd (with_sa (base_fields op) fd) fs) ft) (size_code fmt))

abbrev pub fp2_word : Opcode → Format → (fd fs : ℕ) → ℕ
fp2_word op fmt fd fs = layout (with_rs (with_rd (with_sa (base_fields op) fd) fs) (size_code fmt))

-- a condition code's three bits above two others; the further bits of a code over 7 are lost or spill
abbrev pub code_bits : (cc : ℕ) → Bool → ℕ
code_bits cc flag = cc % 64 * 4 + (elim flag [ true ↦ 1 | false ↦ 0 ])

-- FPMove: cc and the flag in place of ft; fmt, written last, covers the bits that spill
abbrev pub fp_move_word : Opcode → Format → (fd fs cc : ℕ) → Bool → ℕ
fp_move_word op fmt fd fs cc flag = layout (with_rs (with_rt (with_rd (with_sa (base_fields op) fd) fs) (code_bits cc flag % 32)) (size_code fmt))

-- FPCond: cc in place of fd; fs, written later, covers the bits that spill
abbrev pub fp_cond_word : Opcode → Format → (cc fs ft : ℕ) → ℕ
fp_cond_word op fmt cc fs ft = layout (with_rs (with_rt (with_rd (with_sa (base_fields op) (code_bits cc false % 32)) fs) ft) (size_code fmt))

abbrev pub fp_cross_move_word : Opcode → (rt rd : ℕ) → ℕ
fp_cross_move_word op rt rd = layout (with_rd (with_rt (base_fields op) rt) rd)

-- FPBranch. "FPBranch codes over 7 spill upward": into the field above.
abbrev pub fp_branch_word : Opcode → (cc : ℕ) → Bool → ℕ
fp_branch_word op cc flag = layout (with_rt (with_rs (base_fields op) (bit_or (base_fields op).rs (code_bits cc flag / 32))) (code_bits cc flag % 32))
