-- Which constant a line loads, and into which register: at most one, before the words of its own instructions. A constant in an instruction's
-- own immediate field is not loaded; nor is a name, whose halves wait for the build. Assumes nothing.
use Rattle.std.specs.Prelude.{ℕ, true, false, List, [], Option, None, Some}
use Rattle.registers.specs.Numbers.{register_number}
use Rattle.registers.specs.declared.RegisterSlot.{RegisterSlot}
use Rattle.registers.specs.declared.RegisterSlot.TheVariants.{AssemblerTemporary}
use Rattle.instructions.specs.declared.Encoding.{Encoding}
use Rattle.instructions.specs.declared.Encoding.TheVariants.{Register, Inputs, Immediate, Branch, Offset, FPOffset}
use Rattle.pseudo_names.specs.declared.Pseudo.{Pseudo}
use Rattle.pseudo_names.specs.declared.Pseudo.TheVariants.{BranchCustom, SetCustom, Seq, Sne, Li, La, Subi, Subiu}
use Rattle.loading.specs.declared.LoadForm.{LoadForm}
use Rattle.loading.specs.declared.LoadForm.TheVariants.{Nothing as Unloaded}
use Rattle.loading.specs.Load.{form_of, load_words}
use Rattle.address_label.specs.declared.AddressLabel.{AddressLabel}
use Rattle.address_label.specs.declared.AddressLabel.TheVariants.{Constant, Label}
use Rattle.operand.specs.declared.InstructionValue.{InstructionValue}
use Rattle.operand.specs.declared.InstructionValue.TheVariants.{Slot, Literal}
use Rattle.operand.specs.declared.OffsetOrLabel.{OffsetOrLabel}
use Rattle.operand.specs.declared.OffsetOrLabel.TheVariants.{Label as Address, Offset as Based}
use Rattle.operands.specs.Operands.{with_sign}
use Rattle.operand_list.specs.OperandLists.{AskedAll}
use Rattle.emit_pairs.specs.Pairs.{is_immediate}
use Rattle.emit_dispatch.specs.Wants.{encoding_wants, pseudo_wants}

pub record LoadedConstant : Type 0 where
  pub constant : ℕ
  pub register : RegisterSlot

abbrev pub into : RegisterSlot → ℕ → Option LoadedConstant
into r c = Some (record { constant = c; register = r })

abbrev pub into_at : ℕ → Option LoadedConstant
into_at = into AssemblerTemporary

-- ---- by operand

-- a register or a number
abbrev pub value_loads : InstructionValue → Option LoadedConstant
value_loads (Slot r) = None
value_loads (Literal n) = into_at n

-- the third operand of Inputs
abbrev pub maybe_loads : Option InstructionValue → Option LoadedConstant
maybe_loads None = None
maybe_loads (Some value) = value_loads value

-- an immediate or an offset before a brace: "tested as signed 64-bit"; in range it is in the instruction itself
abbrev pub immediate_loads : ℕ → Option LoadedConstant
immediate_loads c = elim (is_immediate c) [ true ↦ None | false ↦ into_at c ]

abbrev pub label_loads : RegisterSlot → AddressLabel → Option LoadedConstant
label_loads r (Constant c) = into r c
label_loads r (Label name) = None

-- an address is loaded whole ("folding `lw $t0,4` into an offset from $zero" is an error)
abbrev pub offset_loads : OffsetOrLabel → Option LoadedConstant
offset_loads (Address label) = label_loads AssemblerTemporary label
offset_loads (Based (Constant c) r) = immediate_loads c
offset_loads (Based (Label name) r) = None

-- ---- by line: x.0, x.1 and x.2 are its operands, left to right

abbrev pub encoding_loads : (e : Encoding) → AskedAll (encoding_wants e) → Option LoadedConstant
encoding_loads Register x = value_loads x.2
encoding_loads Inputs x = maybe_loads x.2
encoding_loads (Immediate alt) x = immediate_loads x.2
encoding_loads Branch x = value_loads x.1
encoding_loads Offset x = offset_loads x.1
encoding_loads FPOffset x = offset_loads x.1
encoding_loads e x = None

-- "subi and subiu negate theirs first, wrapping"
abbrev pub pseudo_loads : (p : Pseudo) → AskedAll (pseudo_wants p) → Option LoadedConstant
pseudo_loads (BranchCustom greater result unsigned) x = value_loads x.1
pseudo_loads (SetCustom greater result unsigned) x = value_loads x.2
pseudo_loads Seq x = value_loads x.2
pseudo_loads Sne x = value_loads x.2
pseudo_loads Li x = into x.0 x.1
pseudo_loads La x = label_loads x.0 x.1
pseudo_loads Subi x = immediate_loads (with_sign true x.2)
pseudo_loads Subiu x = immediate_loads (with_sign true x.2)
pseudo_loads p x = None

-- ---- how it is loaded

-- document 02, P2: "addiu alone, ori alone, lui alone, or both halves", "or none where nothing is loaded"
abbrev pub form_from : Option LoadedConstant → LoadForm
form_from None = Unloaded
form_from (Some l) = form_of l.constant

-- the words that load it

abbrev pub loading_words : Option LoadedConstant → List ℕ
loading_words None = []
loading_words (Some l) = load_words l.constant (register_number l.register)
