-- The words of a line. Words that wait for halves of an address come in pairs: a lui with the upper half, and right behind it an ori with the
-- lower half of the same name. Any other word waits for a branch's or a jump's destination, or for nothing. Assumes nothing.
use Rattle.std.specs.Prelude.{ℕ, ◌%◌, ◌≡◌, refl, List, [], ◌∷◌, ◌++◌, map, Bool, true, false, None, Ok, Some, Option}
use Rattle.jobs.specs.declared.Job.{Job}
use Rattle.registers.specs.Numbers.{register_number}
use Rattle.registers.specs.declared.RegisterSlot.{RegisterSlot}
use Rattle.instructions.specs.declared.Opcode.{Opcode}
use Rattle.instructions.specs.declared.Opcode.TheVariants.{Op, Func}
use Rattle.instructions.specs.declared.Encoding.{Encoding}
use Rattle.instructions.specs.declared.Encoding.TheVariants.{Register, RegisterShift, Source, Destination, Inputs, Sham, SpecialBranch, Immediate, LoadImmediate, Jump as JumpTo, Branch as BranchOn, BranchZero, Parameterless, Offset, FPOffset, FP3Register, FP2Register, FPMove, FPCond, FPCrossMove, FPBranch}
use Rattle.pseudo_names.specs.declared.Pseudo.{Pseudo}
use Rattle.pseudo_names.specs.declared.Pseudo.TheVariants.{Nop, Abs, BranchCustom, SetCustom, Beqz, Bnez, Seq, Sne, Neg, Negu, Not, Li, La, Move, B, Subi, Subiu}
use Rattle.loading.specs.Load.{load_words}
use Rattle.loading.specs.declared.LoadForm.{LoadForm}
use Rattle.address_label.specs.declared.NamedLabel.{NamedLabel}
use Rattle.address_label.specs.declared.AddressLabel.{AddressLabel}
use Rattle.address_label.specs.declared.AddressLabel.TheVariants.{Constant, Label}
use Rattle.pending.specs.declared.InstructionLabelKind.{InstructionLabelKind}
use Rattle.pending.specs.declared.InstructionLabelKind.TheVariants.{Lower, Upper}
use Rattle.operands.specs.Operands.{with_sign}
use Rattle.operand.specs.Answers.{Answer, Got, Missed}
use Rattle.lexer.specs.Tokens.{tokens}
use Rattle.descriptors.specs.Mnemonics.{mnemonic_name}
use Rattle.descriptors.specs.Descriptors.{instruction_at}
use Rattle.operand.specs.declared.InstructionValue.{InstructionValue}
use Rattle.operand.specs.declared.InstructionValue.TheVariants.{Slot, Literal}
use Rattle.operand.specs.declared.OffsetOrLabel.{OffsetOrLabel}
use Rattle.operand.specs.declared.OffsetOrLabel.TheVariants.{Label as LabelAlone, Offset as Based}
use Rattle.operand_list.specs.OperandLists.{AskedAll, read_operands}
use Rattle.emit_words.specs.Words.{immediate_word}
use Rattle.emit_pairs.specs.declared.InstructionPair.{InstructionPair}
use Rattle.emit_pairs.specs.Pairs.{plain, at_number, load_pairs, label_pairs, is_immediate, fallback_pairs, immediate_pairs, Range}
use Rattle.emit_pairs.specs.Values.{value_pairs, added_pairs, constant_pairs, offset_pairs}
use Rattle.emit_integer.specs.IntegerWords.{inputs_pairs}
use Rattle.emit_pseudo.specs.PseudoWords.{turned, sne_pairs}
use Rattle.emit_dispatch.specs.Wants.{encoding_wants, pseudo_wants}
use Rattle.emit_dispatch.specs.Lines.{encoding_pairs, pseudo_pairs, encoding_form, pseudo_form, encoding_range, line_by, encoding_line, pseudo_line}
use Rattle.emit_outcome.specs.Call.{Call}
use Rattle.emit_outcome.specs.Dispatch.{meaning, table_line, meaning_line}
use Rattle.emit_outcome.specs.Emit.{start_of}
use Rattle.emit_outcome.specs.declared.Meaning.{Meaning}
use Rattle.emit_outcome.specs.declared.Meaning.TheVariants.{Table, Builtin, Neither}
use Rattle.reading.specs.OnTarget.{Going}
use Rattle.routine.specs.CallValues.{line_pairs, call_pairs}
use Rattle.pending.specs.declared.InstructionLabel.{InstructionLabel}

-- A word that waits for nothing, or for a branch's or a jump's destination.
abbrev pub Whole : Option InstructionLabel → Type 0
Whole None = Unit {0}
Whole (Some waits) = Going waits.kind

-- A word that waits for a patch of this kind, to this name.
abbrev pub waits_for : InstructionLabelKind → NamedLabel → Option InstructionLabel
waits_for kind name = Some (record { kind = kind; label = Label name })

-- Each upper half is followed by its lower half.
pub data Halves : List InstructionPair → Type 0 where
  done : Halves []
  alone : {p : InstructionPair} {ps : List InstructionPair} → Whole p.label → Halves ps → Halves (p ∷ ps)
  both : {u l : InstructionPair} {ps : List InstructionPair} (name : NamedLabel) → u.label ≡ waits_for Upper name → l.label ≡ waits_for Lower name → Halves ps → Halves (u ∷ l ∷ ps)

joined : {ps qs : List InstructionPair} → Halves ps → Halves qs → Halves (ps ++ qs)
joined done k = k
joined (alone w h) k = alone w (joined h k)
joined (both name u l h) k = both name u l (joined h k)

one : {p : InstructionPair} → Whole p.label → Halves (p ∷ [])
one w = alone w done

-- ---- operands that take words of their own

plains : (ws : List ℕ) → Halves (map plain ws)
plains [] = done
plains (w ∷ ws) = alone tt (plains ws)

load_halves : (c t : ℕ) → Halves (load_pairs c t)
unfolding load_pairs
load_halves c t = plains (load_words c t)

value_halves : (v : InstructionValue) → Halves (value_pairs v)
value_halves (Slot r) = done
value_halves (Literal n) = load_halves n at_number

-- A line has no halves but these two.
label_halves : (l : AddressLabel) (t : ℕ) → Halves (label_pairs l t)
unfolding label_pairs
label_halves (Constant c) t = load_halves c t
label_halves (Label name) t = both name refl refl done

added_halves : (l : AddressLabel) (r : RegisterSlot) → Halves (added_pairs l r)
added_halves l r = joined (label_halves l at_number) (one tt)

constant_halves : (b : Bool) (c : ℕ) (r : RegisterSlot) → Halves (constant_pairs b c r)
constant_halves true c r = done
constant_halves false c r = added_halves (Constant c) r

offset_halves : (o : OffsetOrLabel) → Halves (offset_pairs o)
offset_halves (LabelAlone l) = label_halves l at_number
offset_halves (Based (Constant c) r) = constant_halves (is_immediate c) c r
offset_halves (Based (Label name) r) = added_halves (Label name) r

fallback_halves : (alt : Option Opcode) (rt rs c : ℕ) → Halves (fallback_pairs alt rt rs c)
fallback_halves None rt rs c = done
fallback_halves (Some op) rt rs c = joined (load_halves c at_number) (one tt)

immediate_halves : (op : Opcode) (alt : Option Opcode) (rt rs c : ℕ) → Halves (immediate_pairs op alt rt rs c)
unfolding immediate_pairs
immediate_halves op alt rt rs c = go (is_immediate c)
  where
    go : (b : Bool) → Halves (elim b [ true ↦ plain (immediate_word op rs rt (c % 65536)) ∷ [] | false ↦ fallback_pairs alt rt rs c ])
    go true = one tt
    go false = fallback_halves alt rt rs c

-- ---- lines

inputs_halves : (op : Opcode) (a b : RegisterSlot) (v : Option InstructionValue) → Halves (inputs_pairs op a b v)
inputs_halves op a b None = one tt
inputs_halves op a b (Some v) = joined (value_halves v) (alone tt (one tt))

sne_halves : (a b : RegisterSlot) (v : InstructionValue) → Halves (sne_pairs a b v)
sne_halves a b v = joined (value_halves v) (alone tt (one tt))

turned_halves : (b : Bool) (r : RegisterSlot) → Halves (turned b r)
turned_halves true r = done
turned_halves false r = one tt

encoding_halves : (job : Job) (e : Encoding) (op : Opcode) (x : AskedAll (encoding_wants e)) → Halves (encoding_pairs job e op x)
encoding_halves job Register op x = joined (value_halves x.2) (one tt)
encoding_halves job RegisterShift op x = one tt
encoding_halves job Source op x = one tt
encoding_halves job Destination op x = one tt
encoding_halves job Inputs op x = inputs_halves op x.0 x.1 x.2
encoding_halves job Sham op x = one tt
encoding_halves job SpecialBranch op x = one tt
encoding_halves job (Immediate alt) op x = immediate_halves op alt (register_number x.0) (register_number x.1) x.2
encoding_halves job LoadImmediate op x = one tt
encoding_halves job JumpTo op x = one tt
encoding_halves job BranchOn op x = joined (value_halves x.1) (one tt)
encoding_halves job BranchZero op x = one tt
encoding_halves job Parameterless op x = one tt
encoding_halves job Offset op x = joined (offset_halves x.1) (one tt)
encoding_halves job FPOffset op x = joined (offset_halves x.1) (one tt)
encoding_halves job (FP3Register fmt) op x = one tt
encoding_halves job (FP2Register fmt) op x = one tt
encoding_halves job (FPMove fmt flag) op x = one tt
encoding_halves job (FPCond fmt) op x = one tt
encoding_halves job (FPCrossMove true) op x = one tt
encoding_halves job (FPCrossMove false) op x = one tt
encoding_halves job (FPBranch flag) op x = one tt

pseudo_halves : (job : Job) (p : Pseudo) (x : AskedAll (pseudo_wants p)) → Halves (pseudo_pairs job p x)
pseudo_halves job Nop x = one tt
pseudo_halves job Abs x = alone tt (alone tt (one tt))
pseudo_halves job (BranchCustom greater result unsigned) x = joined (value_halves x.1) (alone tt (one tt))
pseudo_halves job (SetCustom greater result unsigned) x = joined (value_halves x.2) (alone tt (turned_halves result x.0))
pseudo_halves job Beqz x = one tt
pseudo_halves job Bnez x = one tt
pseudo_halves job Seq x = joined (sne_halves x.0 x.1 x.2) (turned_halves false x.0)
pseudo_halves job Sne x = sne_halves x.0 x.1 x.2
pseudo_halves job Neg x = one tt
pseudo_halves job Negu x = one tt
pseudo_halves job Not x = one tt
pseudo_halves job Li x = load_halves x.1 (register_number x.0)
pseudo_halves job La x = label_halves x.1 (register_number x.0)
pseudo_halves job Move x = one tt
pseudo_halves job B x = one tt
pseudo_halves job Subi x = immediate_halves (Op 8) (Some (Func 32)) (register_number x.0) (register_number x.1) (with_sign true x.2)
pseudo_halves job Subiu x = immediate_halves (Op 9) (Some (Func 33)) (register_number x.0) (register_number x.1) (with_sign true x.2)

line_halves : {A : Type 0} (a : Answer A) (i : ℕ) (range : A → Range) (pairs : A → List InstructionPair) (form : A → LoadForm)
    → ((x : A) → Halves (pairs x)) → Halves (line_by a i range pairs form).pairs
line_halves (Got x) i range pairs form h = h x
line_halves (Missed m) i range pairs form h = done

module _ (job : Job) (c : Call) where
  meaning_halves : (m : Meaning) → Halves (line_pairs (meaning_line job c.descriptors m (tokens c.token_list) (start_of c)))
  unfolding table_line encoding_line pseudo_line
  meaning_halves (Table p) =
      let x = instruction_at c.descriptors p in
      let read = read_operands (encoding_wants x.encoding) (tokens c.token_list) (start_of c) in
      line_halves read.answer read.index (encoding_range job x.encoding x.opcode) (encoding_pairs job x.encoding x.opcode) (encoding_form x.encoding)
      (encoding_halves job x.encoding x.opcode)
  meaning_halves (Builtin p) =
      let read = read_operands (pseudo_wants p) (tokens c.token_list) (start_of c) in
      line_halves read.answer read.index (λ x. Ok tt) (pseudo_pairs job p) (pseudo_form p) (pseudo_halves job p)
  meaning_halves Neither = done

  pub call_halves : Halves (call_pairs job c)
  unfolding call_pairs
  call_halves = meaning_halves (meaning c.descriptors (mnemonic_name c.mnemonic))
