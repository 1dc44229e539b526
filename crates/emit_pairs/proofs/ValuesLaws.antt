-- Laws of operands that take words of their own: how many words they take, one or two words pushed behind them, and what an offset turns into.
-- Assumes nothing.
use Rattle.std.specs.Prelude.{◌≡◌, refl, List, [], ◌∷◌, ◌++◌, Bool, true, false, ℕ, ◌+◌, ◌%◌, ◌≤◌, length}
use Rattle.std.proofs.Common.{◌∙◌, append_assoc, arith, length-append}
use Rattle.registers.specs.Numbers.{register_number}
use Rattle.registers.specs.declared.RegisterSlot.{RegisterSlot}
use Rattle.address_label.specs.declared.NamedLabel.{NamedLabel}
use Rattle.address_label.specs.declared.AddressLabel.{AddressLabel}
use Rattle.address_label.specs.declared.AddressLabel.TheVariants.{Constant, Label}
use Rattle.operand.specs.declared.InstructionValue.{InstructionValue}
use Rattle.operand.specs.declared.InstructionValue.TheVariants.{Slot, Literal}
use Rattle.operand.specs.declared.OffsetOrLabel.{OffsetOrLabel}
use Rattle.operand.specs.declared.OffsetOrLabel.TheVariants.{Label as LabelAlone, Offset}
use Rattle.loading.specs.declared.LoadForm.{LoadForm}
use Rattle.loading.specs.declared.LoadForm.TheVariants.{Nothing as Unloaded}
use Rattle.loading.specs.Load.{form_of}
use Rattle.emit_pairs.specs.declared.InstructionPair.{InstructionPair}
use Rattle.emit_pairs.specs.declared.emit_instruction.EmitInstruction.{EmitInstruction}
use Rattle.emit_pairs.specs.Pairs.{pairs_of, EmitIs, at_number, label_pairs, label_form, is_immediate}
use Rattle.emit_pairs.proofs.PairsLaws.{emit_as, emit_push, load_pairs_length}
use Rattle.emit_pairs.specs.Values.{value_pairs, added_pairs, constant_pairs, offset_pairs, base_number, offset_number, base_immediate, offset_immediate, base_form, offset_form}

-- ---- how many words

pub label_length : (label : AddressLabel) (t : ℕ) → length (label_pairs label t) ≤ 2
unfolding label_pairs
label_length (Constant c) t = (load_pairs_length c t).1
label_length (Label name) t = omega arith

pub value_length : (v : InstructionValue) → length (value_pairs v) ≤ 2
value_length (Slot r) = omega arith
value_length (Literal n) = (load_pairs_length n at_number).1

added_length : (label : AddressLabel) (r : RegisterSlot) → length (added_pairs label r) ≤ 3
added_length label r = simp length-append (omega (arith, label_length label at_number))

pub offset_length : (o : OffsetOrLabel) → length (offset_pairs o) ≤ 3
offset_length (Offset (Constant c) r) = go (is_immediate c)
  where
    go : (b : Bool) → length (constant_pairs b c r) ≤ 3
    go true = omega arith
    go false = added_length (Constant c) r
offset_length (Offset (Label name) r) = added_length (Label name) r
offset_length (LabelAlone label) = omega (arith, label_length label at_number)

-- ---- one word pushed, and a second

module _ {e f : EmitInstruction} {ps : List InstructionPair} {form : LoadForm} (p : InstructionPair) (i : EmitIs e ps form)
    (j : EmitIs f (pairs_of e ++ p ∷ []) e.loaded) where
  pub count_one : f.count ≡ length ps + 1
  count_one = (emit_push p i j).count_is ∙ simp length-append

  pub emit_two : {r : EmitInstruction} (q : InstructionPair) → EmitIs r (pairs_of f ++ q ∷ []) f.loaded → EmitIs r (ps ++ p ∷ q ∷ []) form
  emit_two q k = emit_as (emit_push q (emit_push p i j) k) (append_assoc ps (p ∷ []) (q ∷ []))

-- ---- what an offset turns into: the immediate, the base register's number, the words before and the form

abbrev pub ComesTo : OffsetOrLabel → (immediate register : ℕ) → List InstructionPair → LoadForm → Type 0
ComesTo o immediate register ps form = (immediate ≡ offset_immediate o) × (register ≡ offset_number o) × (ps ≡ offset_pairs o) × (form ≡ offset_form o)

module _ {o : OffsetOrLabel} {label : AddressLabel} {r : RegisterSlot} (e : o ≡ Offset label r) where
  pub base_kept : {c : ℕ} → label ≡ Constant c → is_immediate c ≡ true → ComesTo o (c % 65536) (register_number r) [] Unloaded
  base_kept k t = rw (e, k, t, base_immediate, base_number, base_form) (refl, refl, refl, refl)

  pub base_added : {c : ℕ} → label ≡ Constant c → is_immediate c ≡ false → ComesTo o 0 at_number (added_pairs (Constant c) r) (form_of c)
  base_added k t = rw (e, k, t, base_immediate, base_number, base_form) (refl, refl, refl, refl)

  pub base_named : {name : NamedLabel} → label ≡ Label name → ComesTo o 0 at_number (added_pairs label r) Unloaded
  base_named k = rw (e, k) (refl, refl, refl, refl)

pub base_label : {o : OffsetOrLabel} {label : AddressLabel} → o ≡ LabelAlone label → ComesTo o 0 at_number (label_pairs label at_number) (label_form label)
base_label e = rw e (refl, refl, refl, refl)
