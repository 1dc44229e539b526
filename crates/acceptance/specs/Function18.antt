-- Which lines of a Release 6 job still have a word of opcode 0 and function 18, as mflo has: "It also dropped mflo" (document 02, P9).
-- Assumes nothing.
use Rattle.std.specs.Prelude.{ℕ, ◌%◌, ◌≡◌, true, false, None, Option, Some}
use Rattle.field.specs.Field.{get_field}
use Rattle.instructions.specs.declared.Opcode.{Opcode}
use Rattle.instructions.specs.declared.Encoding.{Encoding}
use Rattle.instructions.specs.declared.Encoding.TheVariants.{Register, RegisterShift, Source, Destination, Inputs, Sham, SpecialBranch, Immediate, LoadImmediate, Jump, Branch, BranchZero, Parameterless, Offset, FPOffset, FP3Register, FP2Register, FPMove, FPCond, FPCrossMove, FPBranch}
use Rattle.jobs.specs.Jobs.{is_function}
use Rattle.word.specs.Layout.{base_fields}
use Rattle.address_label.specs.declared.AddressLabel.TheVariants.{Constant, Label}
use Rattle.operand.specs.declared.OffsetOrLabel.{OffsetOrLabel}
use Rattle.operand.specs.declared.OffsetOrLabel.TheVariants.{Label as Address, Offset as Based}
use Rattle.operand.specs.Answers.{Answer, Got}
use Rattle.operand_list.specs.OperandLists.{AskedAll}
use Rattle.emit_pairs.specs.Pairs.{is_immediate}
use Rattle.emit_dispatch.specs.Wants.{encoding_wants}
use Rattle.formats.specs.Operations.{Operation, encoded, pseudo, wants_of}

-- opcode in bits 31..26, function in bits 5..0
abbrev pub IsMflo : ℕ → Type 0
IsMflo w = (get_field w 26 6 ≡ 0) × (get_field w 0 6 ≡ 18)

-- the word's opcode is 0 (class Func, or Op with a key of 0 modulo 64), and the constant in its immediate field puts 18 into its function field
abbrev pub Lands : Opcode → ℕ → Type 0
Lands op c = ((base_fields op).opcode ≡ 0) × (c % 64 ≡ 18)

-- what gives the 18: without an alternative, the constant; with one, the constant if it is in range, else the function of the alternative
abbrev pub ImmediateHolds : Opcode → Option Opcode → ℕ → Type 0
ImmediateHolds op None c = Lands op c
ImmediateHolds op (Some alt) c = elim (is_immediate c) [ true ↦ Lands op c | false ↦ is_function 18 alt ≡ true ]

-- a constant offset before a brace, and in range
abbrev pub OffsetHolds : Opcode → OffsetOrLabel → Type 0
OffsetHolds op (Based (Constant c) base) = elim (is_immediate c) [ true ↦ Lands op c | false ↦ ⊥ ]
OffsetHolds op (Based (Label name) base) = ⊥
OffsetHolds op (Address label) = ⊥

-- by the encoding: x.0, x.1 and x.2 are the operands, left to right
abbrev pub EncodingHolds : (e : Encoding) → Opcode → AskedAll (encoding_wants e) → Type 0
EncodingHolds Register op x = ⊥
EncodingHolds RegisterShift op x = ⊥
EncodingHolds Source op x = ⊥
EncodingHolds Destination op x = ⊥
EncodingHolds Inputs op x = ⊥
EncodingHolds Sham op x = ⊥
EncodingHolds SpecialBranch op x = ⊥
EncodingHolds (Immediate alt) op x = ImmediateHolds op alt x.2
EncodingHolds LoadImmediate op x = Lands op x.1
EncodingHolds Jump op x = ⊥
EncodingHolds Branch op x = ⊥
EncodingHolds BranchZero op x = ⊥
EncodingHolds Parameterless op x = ⊥
EncodingHolds Offset op x = OffsetHolds op x.1
EncodingHolds FPOffset op x = OffsetHolds op x.1
EncodingHolds (FP3Register fmt) op x = ⊥
EncodingHolds (FP2Register fmt) op x = ⊥
EncodingHolds (FPMove fmt flag) op x = ⊥
EncodingHolds (FPCond fmt) op x = ⊥
EncodingHolds (FPCrossMove flag) op x = ⊥
EncodingHolds (FPBranch flag) op x = ⊥

-- no pseudo-instruction has such a word
abbrev pub Holds : (o : Operation) → AskedAll (wants_of o) → Type 0
Holds (encoded e op) x = EncodingHolds e op x
Holds (pseudo p) x = ⊥

-- operands were read, and with them the line has such a word
pub record HeldBy (o : Operation) (read : Answer (AskedAll (wants_of o))) : Type 0 where
  pub operands : AskedAll (wants_of o)
  pub operands_are : read ≡ Got operands
  pub holds : Holds o operands
