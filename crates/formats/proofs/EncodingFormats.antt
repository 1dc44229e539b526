-- The formats of an encoding's own instructions: which operand of the line stands in which field. Above each stands the instruction as the manual
-- describes it. A field that no operand fills has what the opcode's class and key put there (`base_fields`). Words that load the line's constant
-- stand before these (LineLoads.antt). Assumes nothing.
use Rattle.std.specs.Prelude.{ℕ, ◌+◌, ◌*◌, ◌/◌, ◌%◌, ◌^◌, true, false, List, [], ◌∷◌, ◌++◌, None, Some, Option}
use Rattle.std.specs.Int.Bits.{bit_or}
use Rattle.field.specs.Bit.{bit}
use Rattle.registers.specs.Numbers.{register_number as number, fp_register_number as fp_number}
use Rattle.registers.specs.declared.RegisterSlot.TheVariants.{AssemblerTemporary}
use Rattle.instructions.specs.declared.Opcode.{Opcode}
use Rattle.jobs.specs.declared.Job.{Job}
use Rattle.jobs.specs.declared.Format.{Format as Fmt}
use Rattle.jobs.specs.Jobs.{size_code, format_of, source_opcode}
use Rattle.instructions.specs.declared.Encoding.{Encoding}
use Rattle.instructions.specs.declared.Encoding.TheVariants.{Register, RegisterShift, Source, Destination, Inputs, Sham, SpecialBranch, Immediate, LoadImmediate, Jump, Branch, BranchZero, Parameterless, Offset, FPOffset, FP3Register, FP2Register, FPMove, FPCond, FPCrossMove, FPBranch}
use Rattle.word.specs.Layout.{base_fields}
use Rattle.address_label.specs.declared.AddressLabel.TheVariants.{Constant, Label}
use Rattle.operand.specs.declared.InstructionValue.{InstructionValue}
use Rattle.operand.specs.declared.InstructionValue.TheVariants.{Slot, Literal}
use Rattle.operand.specs.declared.OffsetOrLabel.{OffsetOrLabel}
use Rattle.operand.specs.declared.OffsetOrLabel.TheVariants.{Label as Address, Offset as Based}
use Rattle.operand_list.specs.OperandLists.{AskedAll}
use Rattle.emit_pairs.specs.Pairs.{is_immediate}
use Rattle.emit_dispatch.specs.Wants.{encoding_wants}
use Rattle.formats.proofs.Formats.{Format, register, immediate, jump, float, float_move, float_cond, float_cross, float_branch}

-- ---- the fields that the opcode's class and key fill, and those that operands fill

module _ (op : Opcode) where
  abbrev pub in_register : (rs rt rd sa : ℕ) → Format
  in_register rs rt rd sa = register (base_fields op).opcode rs rt rd sa (base_fields op).function

  abbrev pub in_immediate : (rs rt n : ℕ) → Format
  in_immediate rs rt n = immediate (base_fields op).opcode rs rt n

  -- The offset is 0 until it is patched. A key that is a function would stand there, but no branch of the manual has one.
  abbrev pub in_branch : (rs rt : ℕ) → Format
  in_branch rs rt = in_immediate rs rt (base_fields op).function

  -- The target is 0 until it is patched. A key of a class other than Op would stand there, but no jump of the manual has one.
  abbrev pub in_jump : Format
  in_jump = jump (base_fields op).opcode ((base_fields op).rs * 2 ^ 21 + (base_fields op).rt * 2 ^ 16 + (base_fields op).function)

  abbrev pub in_float : Fmt → (ft fs fd : ℕ) → Format
  in_float fmt ft fs fd = float (base_fields op).opcode (size_code fmt) ft fs fd (base_fields op).function

  -- The manual has 0 below fs. A key that is a function would stand there.
  abbrev pub in_cross : (rt fs : ℕ) → Format
  in_cross rt fs = float_cross (base_fields op).opcode (base_fields op).rs rt fs (base_fields op).function

-- ---- operands

abbrev pub $at : ℕ
$at = number AssemblerTemporary

-- The register that holds the value. A number was loaded into $at.
abbrev pub value_in : InstructionValue → ℕ
value_in (Slot r) = number r
value_in (Literal n) = $at

-- LUI rt, upper and ORI rt, rt, lower: the halves of a name are 0 until they are patched
abbrev pub name_formats : (rt : ℕ) → List Format
name_formats rt = immediate 15 0 rt 0 ∷ immediate 13 rt rt 0 ∷ []

-- ---- the encodings with several forms

-- MULT rs, rt. With three operands it takes the last two, and then MFLO rd takes the first.
abbrev pub inputs_formats : Opcode → (first second : ℕ) → Option InstructionValue → List Format
inputs_formats op first second None = in_register op first second 0 0 ∷ []
inputs_formats op first second (Some value) = in_register op second (value_in value) 0 0 ∷ register 0 0 0 first 0 18 ∷ []

-- ADDI rt, rs, immediate. If the immediate is out of range, the alternative: ADD rd, rs, $at.
abbrev pub immediate_formats : Opcode → Option Opcode → (rt rs c : ℕ) → List Format
immediate_formats op None rt rs c = in_immediate op rs rt (c % 65536) ∷ []
immediate_formats op (Some alt) rt rs c = elim (is_immediate c) [ true ↦ in_immediate op rs rt (c % 65536) ∷ [] | false ↦ in_register alt rs $at rt 0 ∷ [] ]

-- ADD $at, $at, base, then LW rt, 0($at)
abbrev pub added_formats : Opcode → (rt base : ℕ) → List Format
added_formats op rt base = register 0 $at base $at 0 32 ∷ in_immediate op $at rt 0 ∷ []

-- LW rt, offset(base). The base is added if the offset is out of range or is a name. An address alone gives LW rt, 0($at).
abbrev pub offset_formats : Opcode → (rt : ℕ) → OffsetOrLabel → List Format
offset_formats op rt (Based (Constant c) base) =
    elim (is_immediate c) [ true ↦ in_immediate op (number base) rt (c % 65536) ∷ [] | false ↦ added_formats op rt (number base) ]
offset_formats op rt (Based (Label name) base) = name_formats $at ++ added_formats op rt (number base)
offset_formats op rt (Address (Constant c)) = in_immediate op $at rt 0 ∷ []
offset_formats op rt (Address (Label name)) = name_formats $at ++ in_immediate op $at rt 0 ∷ []

-- ---- all encodings: x.0, x.1 and x.2 are the operands, left to right

abbrev pub encoding_formats : Job → (e : Encoding) → Opcode → AskedAll (encoding_wants e) → List Format
-- ADDU rd, rs, rt
encoding_formats job Register op x = in_register op (number x.1) (value_in x.2) (number x.0) 0 ∷ []
-- SLLV rd, rt, rs
encoding_formats job RegisterShift op x = in_register op (number x.2) (number x.1) (number x.0) 0 ∷ []
-- JR rs. Release 6 writes it as JALR with rd 0.
encoding_formats job Source op x = in_register (source_opcode job op) (number x.0) (base_fields (source_opcode job op)).rt 0 0 ∷ []
-- MFHI rd
encoding_formats job Destination op x = in_register op (base_fields op).rs (base_fields op).rt (number x.0) 0 ∷ []
-- MULT rs, rt
encoding_formats job Inputs op x = inputs_formats op (number x.0) (number x.1) x.2
-- SLL rd, rt, sa: "shift amounts over 31 spill into rd", and have eight bits
encoding_formats job Sham op x = in_register op (base_fields op).rs (number x.1) (bit_or (number x.0) (x.2 % 256 / 32)) (x.2 % 32) ∷ []
-- BLTZ rs, offset
encoding_formats job SpecialBranch op x = in_branch op (number x.0) (base_fields op).rt ∷ []
-- ADDI rt, rs, immediate
encoding_formats job (Immediate alt) op x = immediate_formats op alt (number x.0) (number x.1) x.2
-- LUI rt, immediate: its low half
encoding_formats job LoadImmediate op x = in_immediate op (base_fields op).rs (number x.0) (x.1 % 65536) ∷ []
-- J target
encoding_formats job Jump op x = in_jump op ∷ []
-- BEQ rs, rt, offset
encoding_formats job Branch op x = in_branch op (number x.0) (value_in x.1) ∷ []
-- BLEZ rs, offset
encoding_formats job BranchZero op x = in_branch op (number x.0) (base_fields op).rt ∷ []
-- SYSCALL
encoding_formats job Parameterless op x = in_register op (base_fields op).rs (base_fields op).rt 0 0 ∷ []
-- LW rt, offset(base)
encoding_formats job Offset op x = offset_formats op (number x.0) x.1
-- LWC1 ft, offset(base)
encoding_formats job FPOffset op x = offset_formats op (fp_number x.0) x.1
-- ADD.fmt fd, fs, ft
encoding_formats job (FP3Register fmt) op x = in_float op (format_of job fmt) (fp_number x.2) (fp_number x.1) (fp_number x.0) ∷ []
-- ABS.fmt fd, fs
encoding_formats job (FP2Register fmt) op x = in_float op (format_of job fmt) (base_fields op).rt (fp_number x.1) (fp_number x.0) ∷ []
-- MOVF.fmt fd, fs, cc: codes modulo 8
encoding_formats job (FPMove fmt flag) op x =
    float_move (base_fields op).opcode (size_code (format_of job fmt)) (x.2 % 8) (bit flag) (fp_number x.1) (fp_number x.0) (base_fields op).function ∷ []
-- C.cond.fmt cc, fs, ft: codes modulo 8
encoding_formats job (FPCond fmt) op x =
    float_cond (base_fields op).opcode (size_code (format_of job fmt)) (fp_number x.2) (fp_number x.1) (x.0 % 8) (base_fields op).function ∷ []
-- MTC1: its float register comes first and stands in rt, its general register stands in fs (a difference from the manual)
encoding_formats job (FPCrossMove true) op x = in_cross op (fp_number x.0) (number x.1) ∷ []
-- MFC1 rt, fs
encoding_formats job (FPCrossMove false) op x = in_cross op (number x.0) (fp_number x.1) ∷ []
-- BC1F cc, offset: "FPBranch codes over 7 spill upward", and have six bits
encoding_formats job (FPBranch flag) op x =
    float_branch (base_fields op).opcode (bit_or (base_fields op).rs (x.0 % 64 / 8)) (x.0 % 8) (bit flag) (base_fields op).function ∷ []
