-- The words of each encoding of general registers, from its operands in the line's order (emit.rs). Assumes nothing.
use Rattle.std.specs.Prelude.{ℕ, ◌%◌, List, [], ◌∷◌, ◌++◌, Option, None, Some}
use Rattle.registers.specs.Numbers.{register_number}
use Rattle.registers.specs.declared.RegisterSlot.{RegisterSlot}
use Rattle.instructions.specs.declared.Opcode.{Opcode}
use Rattle.instructions.specs.declared.Opcode.TheVariants.{Func}
use Rattle.address_label.specs.declared.AddressLabel.{AddressLabel}
use Rattle.pending.specs.declared.InstructionLabelKind.TheVariants.{Branch, Jump}
use Rattle.operand.specs.declared.InstructionValue.{InstructionValue}
use Rattle.operand.specs.declared.OffsetOrLabel.{OffsetOrLabel}
use Rattle.emit_words.specs.Words.{base_word, source_word, destination_word, inputs_word, register_word, sham_word, immediate_word, load_immediate_word}
use Rattle.emit_pairs.specs.declared.InstructionPair.{InstructionPair}
use Rattle.emit_pairs.specs.Pairs.{plain, waiting, immediate_pairs}
use Rattle.emit_pairs.specs.Values.{value_pairs, value_number, offset_pairs, offset_number, offset_immediate}

module _ (op : Opcode) where
  abbrev pub register_pairs : (dest source : RegisterSlot) → InstructionValue → List InstructionPair
  register_pairs dest source value = value_pairs value ++ plain (register_word op (register_number dest) (register_number source) (value_number value)) ∷ []

  -- the register with the shift amount comes last in the line, and is rs
  abbrev pub register_shift_pairs : (dest temp source : RegisterSlot) → List InstructionPair
  register_shift_pairs dest temp source = plain (register_word op (register_number dest) (register_number source) (register_number temp)) ∷ []

  abbrev pub source_pairs : RegisterSlot → List InstructionPair
  source_pairs source = plain (source_word op (register_number source)) ∷ []

  abbrev pub destination_pairs : RegisterSlot → List InstructionPair
  destination_pairs dest = plain (destination_word op (register_number dest)) ∷ []

  -- with a third operand the operation is on the last two, and mflo moves its result into the first
  abbrev pub inputs_pairs : (first second : RegisterSlot) → Option InstructionValue → List InstructionPair
  inputs_pairs first second None = plain (inputs_word op (register_number first) (register_number second)) ∷ []
  inputs_pairs first second (Some value) =
      value_pairs value ++ plain (inputs_word op (register_number second) (value_number value)) ∷ plain (destination_word (Func 18) (register_number first)) ∷ []

  -- the constant's low byte: "shift amounts over 31 spill into rd"
  abbrev pub sham_pairs : (dest temp : RegisterSlot) → ℕ → List InstructionPair
  sham_pairs dest temp constant = plain (sham_word op (register_number dest) (register_number temp) (constant % 256)) ∷ []

  -- SpecialBranch and BranchZero
  abbrev pub branch_zero_pairs : RegisterSlot → AddressLabel → List InstructionPair
  branch_zero_pairs source label = waiting (source_word op (register_number source)) Branch label ∷ []

  abbrev pub immediate_line_pairs : Option Opcode → (temp source : RegisterSlot) → ℕ → List InstructionPair
  immediate_line_pairs alt temp source constant = immediate_pairs op alt (register_number temp) (register_number source) constant

  -- the constant's low half
  abbrev pub load_immediate_pairs : RegisterSlot → ℕ → List InstructionPair
  load_immediate_pairs temp constant = plain (load_immediate_word op (register_number temp) (constant % 65536)) ∷ []

  abbrev pub jump_pairs : AddressLabel → List InstructionPair
  jump_pairs label = waiting (base_word op) Jump label ∷ []

  abbrev pub branch_pairs : RegisterSlot → InstructionValue → AddressLabel → List InstructionPair
  branch_pairs source value label = value_pairs value ++ waiting (inputs_word op (register_number source) (value_number value)) Branch label ∷ []

  abbrev pub parameterless_pairs : List InstructionPair
  parameterless_pairs = plain (base_word op) ∷ []

  -- Offset and FPOffset: rt is the number of the general or of the float register
  abbrev pub offset_line_pairs : (rt : ℕ) → OffsetOrLabel → List InstructionPair
  offset_line_pairs rt offset = offset_pairs offset ++ plain (immediate_word op (offset_number offset) rt (offset_immediate offset)) ∷ []
