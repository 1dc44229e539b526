-- Operands that need words of their own: a number for a register, an offset, a label (emit.rs). Assumes nothing.
use Rattle.std.specs.Prelude.{ℕ, ◌%◌, List, [], ◌∷◌, ◌++◌, Bool, true, false, Some, Option, None}
use Rattle.registers.specs.Numbers.{register_number}
use Rattle.registers.specs.declared.RegisterSlot.{RegisterSlot}
use Rattle.instructions.specs.declared.Opcode.TheVariants.{Func}
use Rattle.address_label.specs.declared.AddressLabel.{AddressLabel}
use Rattle.address_label.specs.declared.AddressLabel.TheVariants.{Constant, Label}
use Rattle.pending.specs.declared.InstructionLabelKind.TheVariants.{Branch}
use Rattle.operand.specs.declared.InstructionValue.{InstructionValue}
use Rattle.operand.specs.declared.InstructionValue.TheVariants.{Slot, Literal}
use Rattle.operand.specs.declared.OffsetOrLabel.{OffsetOrLabel}
use Rattle.operand.specs.declared.OffsetOrLabel.TheVariants.{Label as LabelAlone, Offset}
use Rattle.loading.specs.declared.LoadForm.{LoadForm}
use Rattle.loading.specs.declared.LoadForm.TheVariants.{Nothing as Unloaded}
use Rattle.loading.specs.Load.{form_of}
use Rattle.emit_words.specs.Words.{register_word}
use Rattle.emit_pairs.specs.declared.InstructionPair.{InstructionPair}
use Rattle.emit_pairs.specs.Pairs.{plain, at_number, load_pairs, label_pairs, label_form, is_immediate}
use Rattle.pending.specs.declared.InstructionLabel.{InstructionLabel}

-- ---- a register or a number: a number is loaded into $at (unpack_value)

abbrev pub value_pairs : InstructionValue → List InstructionPair
value_pairs (Slot r) = []
value_pairs (Literal n) = load_pairs n at_number

abbrev pub value_number : InstructionValue → ℕ
value_number (Slot r) = register_number r
value_number (Literal n) = at_number

abbrev pub value_form : InstructionValue → LoadForm
value_form (Slot r) = Unloaded
value_form (Literal n) = form_of n

-- an operand that may be missing
abbrev pub maybe_form : Option InstructionValue → LoadForm
maybe_form None = Unloaded
maybe_form (Some value) = value_form value

-- ---- an offset (make_offset_or_label): the immediate, the base register and the words that go before

-- the label is loaded into $at, then the register is added
abbrev pub added_pairs : AddressLabel → RegisterSlot → List InstructionPair
added_pairs label r = label_pairs label at_number ++ plain (register_word (Func 32) at_number at_number (register_number r)) ∷ []

abbrev pub constant_pairs : Bool → ℕ → RegisterSlot → List InstructionPair
constant_pairs true c r = []
constant_pairs false c r = added_pairs (Constant c) r

abbrev pub base_pairs : AddressLabel → RegisterSlot → List InstructionPair
base_pairs (Constant c) r = constant_pairs (is_immediate c) c r
base_pairs (Label name) r = added_pairs (Label name) r

abbrev pub offset_pairs : OffsetOrLabel → List InstructionPair
offset_pairs (Offset label r) = base_pairs label r
offset_pairs (LabelAlone label) = label_pairs label at_number

abbrev pub base_number : AddressLabel → RegisterSlot → ℕ
base_number (Constant c) r = elim (is_immediate c) [ true ↦ register_number r | false ↦ at_number ]
base_number (Label name) r = at_number

abbrev pub offset_number : OffsetOrLabel → ℕ
offset_number (Offset label r) = base_number label r
offset_number (LabelAlone label) = at_number

abbrev pub base_immediate : AddressLabel → ℕ
base_immediate (Constant c) = elim (is_immediate c) [ true ↦ c % 65536 | false ↦ 0 ]
base_immediate (Label name) = 0

abbrev pub offset_immediate : OffsetOrLabel → ℕ
offset_immediate (Offset label r) = base_immediate label
offset_immediate (LabelAlone label) = 0

-- a constant in range before a brace is in the word's own immediate field
abbrev pub base_form : AddressLabel → LoadForm
base_form (Constant c) = elim (is_immediate c) [ true ↦ Unloaded | false ↦ form_of c ]
base_form (Label name) = Unloaded

abbrev pub offset_form : OffsetOrLabel → LoadForm
offset_form (Offset label r) = base_form label
offset_form (LabelAlone label) = label_form label

-- the label of a word that waits for a branch's destination
abbrev pub branch_to : AddressLabel → Option InstructionLabel
branch_to label = Some (record { kind = Branch; label = label })
