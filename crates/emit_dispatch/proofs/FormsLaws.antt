-- The form that an emitter reports is the form of the constant that its operands load. Assumes nothing.
use Rattle.std.specs.Prelude.{ℕ, ◌≡◌, refl, Bool, true, false, Err, None, Ok, Some, Option}
use Rattle.std.proofs.Common.{arith}
use Rattle.registers.specs.declared.RegisterSlot.{RegisterSlot}
use Rattle.instructions.specs.declared.Opcode.{Opcode}
use Rattle.address_label.specs.declared.AddressLabel.{AddressLabel}
use Rattle.address_label.specs.declared.AddressLabel.TheVariants.{Constant, Label}
use Rattle.operand.specs.declared.InstructionValue.{InstructionValue}
use Rattle.operand.specs.declared.InstructionValue.TheVariants.{Slot, Literal}
use Rattle.operand.specs.declared.OffsetOrLabel.{OffsetOrLabel}
use Rattle.operand.specs.declared.OffsetOrLabel.TheVariants.{Label as Address, Offset as Based}
use Rattle.operands.specs.Operands.{with_sign}
use Rattle.loading.specs.declared.LoadForm.TheVariants.{Nothing as Unloaded}
use Rattle.loading.specs.Load.{form_of}
use Rattle.emit_pairs.specs.declared.Fault.TheVariants.{Immediate as ImmediateFault}
use Rattle.emit_pairs.specs.Pairs.{label_form, is_immediate, immediate_range, immediate_form, Range}
use Rattle.emit_pairs.specs.Values.{value_form, maybe_form, offset_form}
use Rattle.emit_pseudo.specs.PseudoWords.{subi_form}
use Rattle.emit_dispatch.specs.LineLoads.{into_at, value_loads, maybe_loads, immediate_loads, label_loads, offset_loads, form_from}

pub value_form_lem : (v : InstructionValue) → value_form v ≡ form_from (value_loads v)
value_form_lem (Slot r) = refl
value_form_lem (Literal n) = refl

pub maybe_form_lem : (v : Option InstructionValue) → maybe_form v ≡ form_from (maybe_loads v)
maybe_form_lem None = refl
maybe_form_lem (Some v) = value_form_lem v

pub label_form_lem : (r : RegisterSlot) (label : AddressLabel) → label_form label ≡ form_from (label_loads r label)
label_form_lem r (Constant c) = refl
label_form_lem r (Label name) = refl

-- A constant is loaded if it is no immediate.
tested : (b : Bool) (c : ℕ) → elim b [ true ↦ Unloaded | false ↦ form_of c ] ≡ form_from (elim b [ true ↦ None | false ↦ into_at c ])
tested true c = refl
tested false c = refl

pub offset_form_lem : (o : OffsetOrLabel) → offset_form o ≡ form_from (offset_loads o)
offset_form_lem (Address (Constant c)) = refl
offset_form_lem (Address (Label name)) = refl
offset_form_lem (Based (Constant c) r) = tested (is_immediate c) c
offset_form_lem (Based (Label name) r) = refl

pub immediate_form_lem : (alt : Option Opcode) (c : ℕ) → immediate_range alt c ≡ Ok tt → immediate_form alt c ≡ form_from (immediate_loads c)
immediate_form_lem (Some alt) c h = tested (is_immediate c) c
immediate_form_lem None c h = go (is_immediate c) h
  where
    go : (b : Bool) → ◌≡◌ {A = Range} (elim b [ true ↦ Ok tt | false ↦ Err ImmediateFault ]) (Ok tt) → elim b [ true ↦ Unloaded | false ↦ Unloaded ] ≡ form_from (elim b [ true ↦ None | false ↦ into_at c ])
    go true h = refl
    go false h = let z : ◌≡◌ {A = ℕ} 0 1 = cc in absurd (omega arith)

pub subi_form_lem : (c : ℕ) → subi_form c ≡ form_from (immediate_loads (with_sign true c))
subi_form_lem c = tested (is_immediate (with_sign true c)) (with_sign true c)
