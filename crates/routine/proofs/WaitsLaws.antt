-- How many words of a line wait for a label: an address has two, and no line has more. Assumes nothing.
use Rattle.std.specs.Prelude.{ℕ, ◌+◌, ◌*◌, ◌%◌, ◌≤◌, ◌≡◌, refl, List, [], ◌∷◌, ◌++◌, map, Bool, true, false, length, None, Ok, Some, Option}
use native.Mathlib.Omega.{arith}
use Rattle.jobs.specs.declared.Job.{Job}
use Rattle.registers.specs.Numbers.{register_number}
use Rattle.registers.specs.declared.RegisterSlot.{RegisterSlot}
use Rattle.instructions.specs.declared.Opcode.{Opcode}
use Rattle.instructions.specs.declared.Opcode.TheVariants.{Op, Func}
use Rattle.instructions.specs.declared.Encoding.{Encoding}
use Rattle.instructions.specs.declared.Encoding.TheVariants.{Register, RegisterShift, Source, Destination, Inputs, Sham, SpecialBranch, Immediate, LoadImmediate, Jump, Branch, BranchZero, Parameterless, Offset, FPOffset, FP3Register, FP2Register, FPMove, FPCond, FPCrossMove, FPBranch}
use Rattle.pseudo_names.specs.declared.Pseudo.{Pseudo}
use Rattle.pseudo_names.specs.declared.Pseudo.TheVariants.{Nop, Abs, BranchCustom, SetCustom, Beqz, Bnez, Seq, Sne, Neg, Negu, Not, Li, La, Move, B, Subi, Subiu}
use Rattle.loading.specs.Load.{load_words}
use Rattle.loading.specs.declared.LoadForm.{LoadForm}
use Rattle.lexer.specs.Tokens.{tokens}
use Rattle.address_label.specs.LabelBytes.{name_bytes, LabelFits}
use Rattle.address_label.specs.declared.AddressLabel.{AddressLabel}
use Rattle.address_label.specs.declared.AddressLabel.TheVariants.{Constant, Label}
use Rattle.descriptors.specs.Mnemonics.{mnemonic_name}
use Rattle.descriptors.specs.Descriptors.{instruction_at}
use Rattle.operands.specs.Operands.{with_sign}
use Rattle.operand.specs.Answers.{Answer, Got, Missed}
use Rattle.operand.specs.declared.InstructionValue.{InstructionValue}
use Rattle.operand.specs.declared.InstructionValue.TheVariants.{Slot, Literal}
use Rattle.operand.specs.declared.OffsetOrLabel.{OffsetOrLabel}
use Rattle.operand.specs.declared.OffsetOrLabel.TheVariants.{Label as LabelAlone, Offset as Based}
use Rattle.operand_list.specs.OperandLists.{AskedAll, read_operands}
use Rattle.emit_words.specs.Words.{immediate_word}
use Rattle.emit_pairs.specs.declared.InstructionPair.{InstructionPair}
use Rattle.emit_pairs.specs.Pairs.{plain, at_number, load_pairs, label_pairs, is_immediate, fallback_pairs, immediate_pairs, Range}
use Rattle.emit_pairs.specs.Values.{value_pairs, added_pairs, constant_pairs, offset_pairs}
use Rattle.emit_bytes.specs.Appended.{pair_len, pendings_len}
use Rattle.emit_integer.specs.IntegerWords.{inputs_pairs}
use Rattle.emit_pseudo.specs.PseudoWords.{turned, sne_pairs}
use Rattle.emit_dispatch.specs.Wants.{encoding_wants, pseudo_wants}
use Rattle.emit_dispatch.specs.Lines.{encoding_pairs, pseudo_pairs, encoding_form, pseudo_form, encoding_range, line_by, encoding_line, pseudo_line}
use Rattle.emit_outcome.specs.Call.{Call}
use Rattle.emit_outcome.specs.Dispatch.{meaning, table_line, meaning_line}
use Rattle.emit_outcome.specs.Emit.{start_of}
use Rattle.emit_outcome.specs.declared.Meaning.{Meaning}
use Rattle.emit_outcome.specs.declared.Meaning.TheVariants.{Table, Builtin, Neither}
use Rattle.routine.specs.CallValues.{line_pairs, call_pairs}
use Rattle.routine.proofs.WordLaws.{PairFits, PairsFit}
use Rattle.pending.specs.declared.InstructionLabel.{InstructionLabel}

abbrev waits_for : Option InstructionLabel → ℕ
waits_for None = 0
waits_for (Some label) = 1

unfoldable pub waits : List InstructionPair → ℕ
waits [] = 0
waits (p ∷ ps) = waits_for p.label + waits ps

-- ---- the record of a label that fits: 36 bytes and a name of at most 64
label_length : (names : List ℕ) (l : AddressLabel) → LabelFits names l → length (name_bytes names l) ≤ 64
label_length names (Constant c) h = omega arith
label_length names (Label name) h = h.most

one_record : (names : List ℕ) (l : Option InstructionLabel) → PairFits names l → pair_len names l ≤ 100 * waits_for l
one_record names None f = omega arith
one_record names (Some waiting) f = omega (arith, label_length names waiting.label f)

pub waits_bytes : (names : List ℕ) (ps : List InstructionPair) → PairsFit names ps → pendings_len names ps ≤ 100 * waits ps
unfolding waits pendings_len
waits_bytes names [] h = omega arith
waits_bytes names (p ∷ ps) h = omega (arith, one_record names p.label h.0, waits_bytes names ps h.1)

-- ---- operands that take words of their own

waits_append : (a b : List InstructionPair) → waits (a ++ b) ≡ waits a + waits b
unfolding waits
waits_append [] b = omega arith
waits_append (p ∷ a) b = omega (arith, waits_append a b)

plains_wait : (ws : List ℕ) → waits (map plain ws) ≡ 0
unfolding waits
plains_wait [] = refl
plains_wait (w ∷ ws) = omega (arith, plains_wait ws)

load_waits : (c t : ℕ) → waits (load_pairs c t) ≡ 0
unfolding load_pairs
load_waits c t = plains_wait (load_words c t)

value_waits : (v : InstructionValue) → waits (value_pairs v) ≡ 0
unfolding waits
value_waits (Slot r) = refl
value_waits (Literal n) = load_waits n at_number

-- At most two words of an address wait.
label_waits : (l : AddressLabel) (t : ℕ) → waits (label_pairs l t) ≤ 2
unfolding waits label_pairs
label_waits (Constant c) t = omega (arith, load_waits c t)
label_waits (Label name) t = omega arith

added_waits : (l : AddressLabel) (r : RegisterSlot) → waits (added_pairs l r) ≤ 2
unfolding waits
added_waits l r = rw (waits_append (label_pairs l at_number)) (omega (arith, label_waits l at_number))

constant_waits : (b : Bool) (c : ℕ) (r : RegisterSlot) → waits (constant_pairs b c r) ≤ 2
unfolding waits
constant_waits true c r = omega arith
constant_waits false c r = added_waits (Constant c) r

offset_waits : (o : OffsetOrLabel) → waits (offset_pairs o) ≤ 2
offset_waits (LabelAlone l) = label_waits l at_number
offset_waits (Based (Constant c) r) = constant_waits (is_immediate c) c r
offset_waits (Based (Label name) r) = added_waits (Label name) r

fallback_waits : (alt : Option Opcode) (rt rs c : ℕ) → waits (fallback_pairs alt rt rs c) ≡ 0
unfolding waits
fallback_waits None rt rs c = refl
fallback_waits (Some op) rt rs c = rw (waits_append (load_pairs c at_number)) (omega (arith, load_waits c at_number))

immediate_waits : (op : Opcode) (alt : Option Opcode) (rt rs c : ℕ) → waits (immediate_pairs op alt rt rs c) ≡ 0
unfolding waits immediate_pairs
immediate_waits op alt rt rs c = go (is_immediate c)
  where
    go : (b : Bool) → waits (elim b [ true ↦ plain (immediate_word op rs rt (c % 65536)) ∷ [] | false ↦ fallback_pairs alt rt rs c ]) ≡ 0
    go true = refl
    go false = fallback_waits alt rt rs c

-- ---- lines

behind : (a b : List InstructionPair) → waits a ≡ 0 → waits b ≤ 2 → waits (a ++ b) ≤ 2
behind a b e h = rw (waits_append a b) (omega arith)

inputs_waits : (op : Opcode) (a b : RegisterSlot) (v : Option InstructionValue) → waits (inputs_pairs op a b v) ≤ 2
unfolding waits
inputs_waits op a b None = omega arith
inputs_waits op a b (Some v) = behind (value_pairs v) _ (value_waits v) (omega arith)

sne_waits : (a b : RegisterSlot) (v : InstructionValue) → waits (sne_pairs a b v) ≡ 0
unfolding waits
sne_waits a b v = rw (waits_append (value_pairs v)) (omega (arith, value_waits v))

turned_waits : (b : Bool) (r : RegisterSlot) → waits (turned b r) ≡ 0
unfolding waits
turned_waits true r = refl
turned_waits false r = refl

offset_line_waits : (o : OffsetOrLabel) (w : ℕ) → waits (offset_pairs o ++ plain w ∷ []) ≤ 2
unfolding waits
offset_line_waits o w = rw (waits_append (offset_pairs o)) (omega (arith, offset_waits o))

encoding_waits : (job : Job) (e : Encoding) (op : Opcode) (x : AskedAll (encoding_wants e)) → waits (encoding_pairs job e op x) ≤ 2
unfolding waits
encoding_waits job Register op x = behind (value_pairs x.2) _ (value_waits x.2) (omega arith)
encoding_waits job RegisterShift op x = omega arith
encoding_waits job Source op x = omega arith
encoding_waits job Destination op x = omega arith
encoding_waits job Inputs op x = inputs_waits op x.0 x.1 x.2
encoding_waits job Sham op x = omega arith
encoding_waits job SpecialBranch op x = omega arith
encoding_waits job (Immediate alt) op x = omega (arith, immediate_waits op alt (register_number x.0) (register_number x.1) x.2)
encoding_waits job LoadImmediate op x = omega arith
encoding_waits job Jump op x = omega arith
encoding_waits job Branch op x = behind (value_pairs x.1) _ (value_waits x.1) (omega arith)
encoding_waits job BranchZero op x = omega arith
encoding_waits job Parameterless op x = omega arith
encoding_waits job Offset op x = offset_line_waits x.1 _
encoding_waits job FPOffset op x = offset_line_waits x.1 _
encoding_waits job (FP3Register fmt) op x = omega arith
encoding_waits job (FP2Register fmt) op x = omega arith
encoding_waits job (FPMove fmt flag) op x = omega arith
encoding_waits job (FPCond fmt) op x = omega arith
encoding_waits job (FPCrossMove true) op x = omega arith
encoding_waits job (FPCrossMove false) op x = omega arith
encoding_waits job (FPBranch flag) op x = omega arith

pseudo_waits : (job : Job) (p : Pseudo) (x : AskedAll (pseudo_wants p)) → waits (pseudo_pairs job p x) ≤ 2
unfolding waits
pseudo_waits job Nop x = omega arith
pseudo_waits job Abs x = omega arith
pseudo_waits job (BranchCustom greater result unsigned) x = behind (value_pairs x.1) _ (value_waits x.1) (omega arith)
pseudo_waits job (SetCustom greater result unsigned) x = behind (value_pairs x.2) _ (value_waits x.2) (omega (arith, turned_waits result x.0))
pseudo_waits job Beqz x = omega arith
pseudo_waits job Bnez x = omega arith
pseudo_waits job Seq x = rw (waits_append (sne_pairs x.0 x.1 x.2)) (omega (arith, sne_waits x.0 x.1 x.2, turned_waits false x.0))
pseudo_waits job Sne x = omega (arith, sne_waits x.0 x.1 x.2)
pseudo_waits job Neg x = omega arith
pseudo_waits job Negu x = omega arith
pseudo_waits job Not x = omega arith
pseudo_waits job Li x = omega (arith, load_waits x.1 (register_number x.0))
pseudo_waits job La x = label_waits x.1 (register_number x.0)
pseudo_waits job Move x = omega arith
pseudo_waits job B x = omega arith
pseudo_waits job Subi x = omega (arith, immediate_waits (Op 8) (Some (Func 32)) (register_number x.0) (register_number x.1) (with_sign true x.2))
pseudo_waits job Subiu x = omega (arith, immediate_waits (Op 9) (Some (Func 33)) (register_number x.0) (register_number x.1) (with_sign true x.2))

line_waits : {A : Type 0} (a : Answer A) (i : ℕ) (range : A → Range) (pairs : A → List InstructionPair) (form : A → LoadForm)
    → ((x : A) → waits (pairs x) ≤ 2) → waits (line_by a i range pairs form).pairs ≤ 2
unfolding waits
line_waits (Got x) i range pairs form h = h x
line_waits (Missed m) i range pairs form h = omega arith

module _ (job : Job) (c : Call) where
  pub meaning_waits : (m : Meaning) → waits (line_pairs (meaning_line job c.descriptors m (tokens c.token_list) (start_of c))) ≤ 2
  unfolding waits table_line encoding_line pseudo_line
  meaning_waits (Table p) =
      let x = instruction_at c.descriptors p in
      let read = read_operands (encoding_wants x.encoding) (tokens c.token_list) (start_of c) in
      line_waits read.answer read.index (encoding_range job x.encoding x.opcode) (encoding_pairs job x.encoding x.opcode) (encoding_form x.encoding)
      (encoding_waits job x.encoding x.opcode)
  meaning_waits (Builtin p) =
      let read = read_operands (pseudo_wants p) (tokens c.token_list) (start_of c) in
      line_waits read.answer read.index (λ x. Ok tt) (pseudo_pairs job p) (pseudo_form p) (pseudo_waits job p)
  meaning_waits Neither = omega arith

  pub call_waits : waits (call_pairs job c) ≤ 2
  unfolding call_pairs
  call_waits = meaning_waits (meaning c.descriptors (mnemonic_name c.mnemonic))
