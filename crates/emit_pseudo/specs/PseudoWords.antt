-- The words of each pseudo-instruction, from its operands in the line's order (emit.rs). Assumes nothing.
use Rattle.std.specs.Prelude.{ℕ, List, [], ◌∷◌, ◌++◌, Bool, true, false, Some}
use Rattle.registers.specs.Numbers.{register_number}
use Rattle.registers.specs.declared.RegisterSlot.{RegisterSlot}
use Rattle.instructions.specs.declared.Opcode.{Opcode}
use Rattle.instructions.specs.declared.Opcode.TheVariants.{Op, Func}
use Rattle.jobs.specs.declared.Job.{Job}
use Rattle.jobs.specs.Jobs.{abs_first_word}
use Rattle.address_label.specs.declared.AddressLabel.{AddressLabel}
use Rattle.pending.specs.declared.InstructionLabelKind.TheVariants.{Branch}
use Rattle.operand.specs.declared.InstructionValue.{InstructionValue}
use Rattle.operands.specs.Operands.{with_sign}
use Rattle.loading.specs.declared.LoadForm.{LoadForm}
use Rattle.loading.specs.declared.LoadForm.TheVariants.{Nothing as Unloaded}
use Rattle.loading.specs.Load.{form_of}
use Rattle.emit_words.specs.Words.{base_word, inputs_word, register_word, immediate_word}
use Rattle.emit_pairs.specs.declared.InstructionPair.{InstructionPair}
use Rattle.emit_pairs.specs.Pairs.{plain, waiting, at_number, load_pairs, label_pairs, is_immediate, immediate_pairs}
use Rattle.emit_pairs.specs.Values.{value_pairs, value_number}

-- ---- comparisons

-- the Rust's function 41 for an unsigned comparison, 42 for a signed one
abbrev pub set_opcode : Bool → Opcode
set_opcode true = Func 41
set_opcode false = Func 42

-- the comparison's word; for greater-than the operands are swapped
abbrev pub compare_word : (greater unsigned : Bool) → (rd a b : ℕ) → ℕ
compare_word true unsigned rd a b = register_word (set_opcode unsigned) rd b a
compare_word false unsigned rd a b = register_word (set_opcode unsigned) rd a b

abbrev pub branch_opcode : Bool → Opcode
branch_opcode true = Op 5
branch_opcode false = Op 4

abbrev pub branch_custom_pairs : (greater result unsigned : Bool) → RegisterSlot → InstructionValue → AddressLabel → List InstructionPair
branch_custom_pairs greater result unsigned source value label =
    value_pairs value ++ plain (compare_word greater unsigned at_number (register_number source) (value_number value))
    ∷ waiting (inputs_word (branch_opcode result) at_number 0) Branch label ∷ []

-- where the comparison must be false, xori inverts its result
abbrev pub turned : Bool → RegisterSlot → List InstructionPair
turned true dest = []
turned false dest = plain (immediate_word (Op 14) (register_number dest) (register_number dest) 1) ∷ []

abbrev pub set_custom_pairs : (greater result unsigned : Bool) → (dest source : RegisterSlot) → InstructionValue → List InstructionPair
set_custom_pairs greater result unsigned dest source value =
    value_pairs value ++ plain (compare_word greater unsigned (register_number dest) (register_number source) (value_number value)) ∷ turned result dest

-- sne: the difference, then whether it is not zero
abbrev pub sne_pairs : (dest source : RegisterSlot) → InstructionValue → List InstructionPair
sne_pairs dest source value =
    value_pairs value ++ plain (register_word (Func 35) (register_number dest) (register_number source) (value_number value))
    ∷ plain (register_word (Func 41) (register_number dest) 0 (register_number dest)) ∷ []

abbrev pub seq_pairs : (dest source : RegisterSlot) → InstructionValue → List InstructionPair
seq_pairs dest source value = sne_pairs dest source value ++ turned false dest

-- ---- one or two registers

-- sra into $at, xor and subu: abs by MARS's pattern
abbrev pub abs_pairs : Job → (dest source : RegisterSlot) → List InstructionPair
abs_pairs job dest source =
    plain (abs_first_word job (register_number source)) ∷ plain (register_word (Func 38) (register_number dest) (register_number source) at_number)
    ∷ plain (register_word (Func 35) (register_number dest) (register_number dest) at_number) ∷ []

-- neg and negu: the second operand subtracted from $zero
abbrev pub neg_pairs : Opcode → (dest source : RegisterSlot) → List InstructionPair
neg_pairs op dest source = plain (register_word op (register_number dest) 0 (register_number source)) ∷ []

-- not and move: the operation on the second operand and $zero
abbrev pub move_pairs : Opcode → (dest source : RegisterSlot) → List InstructionPair
move_pairs op dest source = plain (register_word op (register_number dest) (register_number source) 0) ∷ []

-- ---- constants and labels

abbrev pub li_pairs : RegisterSlot → ℕ → List InstructionPair
li_pairs dest constant = load_pairs constant (register_number dest)

abbrev pub la_pairs : RegisterSlot → AddressLabel → List InstructionPair
la_pairs dest label = label_pairs label (register_number dest)

abbrev pub b_pairs : AddressLabel → List InstructionPair
b_pairs label = waiting (inputs_word (Op 4) 0 0) Branch label ∷ []

abbrev pub nop_pairs : List InstructionPair
nop_pairs = plain (base_word (Func 0)) ∷ []

-- "subi and subiu negate theirs first, wrapping"
abbrev pub subi_pairs : (op alternative : Opcode) → (temp source : RegisterSlot) → ℕ → List InstructionPair
subi_pairs op alternative temp source constant = immediate_pairs op (Some alternative) (register_number temp) (register_number source) (with_sign true constant)

abbrev pub subi_form : ℕ → LoadForm
subi_form constant = elim (is_immediate (with_sign true constant)) [ true ↦ Unloaded | false ↦ form_of (with_sign true constant) ]
