-- A made line has one to five words, and each label that a word waits for fits a pending record. Assumes nothing.
use Rattle.std.specs.Prelude.{ℕ, suc, ◌+◌, ◌≤◌, ◌≡◌, refl, List, [], ◌∷◌, ◌++◌, map, Bool, true, false, length, get_or, None, Ok, Some, Option}
use Rattle.std.proofs.Common.{arith, subst, length-append}
use Rattle.jobs.specs.declared.Job.{Job}
use Rattle.registers.specs.Numbers.{register_number}
use Rattle.registers.specs.declared.RegisterSlot.{RegisterSlot}
use Rattle.instructions.specs.declared.Opcode.{Opcode}
use Rattle.instructions.specs.declared.Opcode.TheVariants.{Op, Func}
use Rattle.instructions.specs.declared.Encoding.{Encoding}
use Rattle.instructions.specs.declared.Encoding.TheVariants.{Register, RegisterShift, Source, Destination, Inputs, Sham, SpecialBranch, Immediate, LoadImmediate, Jump, Branch, BranchZero, Parameterless, Offset, FPOffset, FP3Register, FP2Register, FPMove, FPCond, FPCrossMove, FPBranch}
use Rattle.pseudo_names.specs.declared.Pseudo.{Pseudo}
use Rattle.pseudo_names.specs.declared.Pseudo.TheVariants.{Nop, Abs, BranchCustom, SetCustom, Beqz, Bnez, Seq, Sne, Neg, Negu, Not, Li, La, Move, B, Subi, Subiu}
use Rattle.loading.specs.Load.{load_words}
use Rattle.address_label.specs.LabelBytes.{LabelFits}
use Rattle.address_label.specs.declared.AddressLabel.{AddressLabel}
use Rattle.address_label.specs.declared.AddressLabel.TheVariants.{Constant, Label}
use Rattle.operands.specs.Operands.{with_sign}
use Rattle.operand.specs.Answers.{Answer, Got, Missed}
use Rattle.lexer.specs.declared.Token.{Token}
use Rattle.cursor.specs.Cursors.{no_token}
use Rattle.operand.specs.declared.InstructionValue.{InstructionValue}
use Rattle.operand.specs.declared.InstructionValue.TheVariants.{Slot, Literal}
use Rattle.operand.specs.declared.OffsetOrLabel.{OffsetOrLabel}
use Rattle.operand.specs.declared.OffsetOrLabel.TheVariants.{Label as LabelAlone, Offset as Based}
use Rattle.operand_list.specs.OperandLists.{AskedAll, read_operands}
use Rattle.emit_pairs.specs.declared.InstructionPair.{InstructionPair}
use Rattle.emit_pairs.specs.Pairs.{plain, at_number, load_pairs, label_pairs, is_immediate, immediate_range, immediate_pairs, Range}
use Rattle.emit_pairs.proofs.PairsLaws.{load_pairs_length, pairs_taken, pairs_alternative, range_refused}
use Rattle.emit_pairs.specs.Values.{value_pairs, constant_pairs, base_pairs, offset_pairs}
use Rattle.emit_integer.specs.IntegerWords.{inputs_pairs}
use Rattle.emit_pseudo.specs.PseudoWords.{turned}
use Rattle.emit_dispatch.specs.Wants.{encoding_wants, pseudo_wants}
use Rattle.loading.specs.declared.LoadForm.{LoadForm}
use Rattle.emit_dispatch.proofs.LinesLaws.{within_made, then_within}
use Rattle.emit_dispatch.specs.Lines.{encoding_pairs, pseudo_pairs, encoding_form, pseudo_form, encoding_range, kept_range, line_by, encoding_line, pseudo_line}
use Rattle.emit_dispatch.specs.LineAnswers.{Made}
use Rattle.routine.proofs.TokenLaws.{TokenFits}
use Rattle.routine.proofs.ReadLaws.{Of, OffsetFits, AllFit, operands_fit}
use Rattle.pending.specs.declared.InstructionLabel.{InstructionLabel}

module _ (names : List ℕ) where
  abbrev pub PairFits : Option InstructionLabel → Type 0
  PairFits None = Unit {0}
  PairFits (Some waits) = LabelFits names waits.label

  abbrev pub PairsFit : List InstructionPair → Type 0
  PairsFit [] = Unit {0}
  PairsFit (p ∷ ps) = PairFits p.label × PairsFit ps

  -- `least` to `most` words, whose labels fit.
  pub record Words (least most : ℕ) (ps : List InstructionPair) : Type 0 where
    pub fit : PairsFit ps
    pub at_least : least ≤ length ps
    pub at_most : length ps ≤ most

  no_words : Words 0 0 []
  no_words = record { fit = tt; at_least = omega arith; at_most = omega arith }

  one_more : {least most : ℕ} {p : InstructionPair} {ps : List InstructionPair} → PairFits p.label → Words least most ps → Words (suc least) (suc most) (p ∷ ps)
  one_more h w = record { fit = (h, w.fit); at_least = omega (arith, w.at_least); at_most = omega (arith, w.at_most) }

  one_word : {p : InstructionPair} → PairFits p.label → Words 1 1 (p ∷ [])
  one_word h = one_more h no_words

  both_fit : (ps qs : List InstructionPair) → PairsFit ps → PairsFit qs → PairsFit (ps ++ qs)
  both_fit [] qs h k = k
  both_fit (p ∷ ps) qs h k = (h.0, both_fit ps qs h.1 k)

  then_words : {a b m n : ℕ} {ps qs : List InstructionPair} → Words a m ps → Words b n qs → Words (a + b) (m + n) (ps ++ qs)
  then_words {ps = ps} {qs} v w = record {
    fit = both_fit ps qs v.fit w.fit;
    at_least = simp length-append (omega (arith, v.at_least, w.at_least));
    at_most = simp length-append (omega (arith, v.at_most, w.at_most));
  }

  widened : {a b m n : ℕ} {ps : List InstructionPair} → a ≤ b → n ≤ m → Words b n ps → Words a m ps
  widened h k w = record { fit = w.fit; at_least = omega (arith, w.at_least); at_most = omega (arith, w.at_most) }

  -- ---- operands that take words of their own

  plains_fit : (ws : List ℕ) → PairsFit (map plain ws)
  plains_fit [] = tt
  plains_fit (w ∷ ws) = (tt, plains_fit ws)

  load_words_lem : (c t : ℕ) → Words 1 2 (load_pairs c t)
  unfolding load_pairs
  load_words_lem c t =
      let n = load_pairs_length c t in
      record { fit = plains_fit (load_words c t); at_least = n.0; at_most = n.1 }

  value_words : (v : InstructionValue) → Words 0 2 (value_pairs v)
  value_words (Slot r) = widened (omega arith) (omega arith) no_words
  value_words (Literal n) = widened (omega arith) (omega arith) (load_words_lem n at_number)

  label_words : (label : AddressLabel) (t : ℕ) → LabelFits names label → Words 1 2 (label_pairs label t)
  unfolding label_pairs
  label_words (Constant c) t h = load_words_lem c t
  label_words (Label name) t h = widened (omega arith) (omega arith) (one_more h (one_word h))

  base_words : (label : AddressLabel) (r : RegisterSlot) → LabelFits names label → Words 0 3 (base_pairs label r)
  base_words (Constant c) r h = go (is_immediate c)
    where
      go : (b : Bool) → Words 0 3 (constant_pairs b c r)
      go true = widened (omega arith) (omega arith) no_words
      go false = widened (omega arith) (omega arith) (then_words (label_words (Constant c) at_number h) (one_word tt))
  base_words (Label name) r h = widened (omega arith) (omega arith) (then_words (label_words (Label name) at_number h) (one_word tt))

  offset_words : (o : OffsetOrLabel) → OffsetFits names o → Words 0 3 (offset_pairs o)
  offset_words (Based label r) h = base_words label r h
  offset_words (LabelAlone label) h = widened (omega arith) (omega arith) (label_words label at_number h)

  -- An immediate operand within its range has one to three words.
  immediate_words : (op : Opcode) (alt : Option Opcode) (rt rs c : ℕ) → immediate_range alt c ≡ Ok tt → Words 1 3 (immediate_pairs op alt rt rs c)
  immediate_words op alt rt rs c e = go (is_immediate c) refl alt e
    where
      go : (b : Bool) → is_immediate c ≡ b → (a : Option Opcode) → immediate_range a c ≡ Ok tt → Words 1 3 (immediate_pairs op a rt rs c)
      go true q a r = subst (λ (ps : List InstructionPair). Words 1 3 ps) (pairs_taken op a rt rs c q refl) (widened (omega arith) (omega arith) (one_word tt))
      go false q None r =
          let z : ◌≡◌ {A = ℕ} 0 1 = cc (range_refused {alt = None} c q refl) in
          absurd (omega arith)
      go false q (Some other) r =
          subst (λ (ps : List InstructionPair). Words 1 3 ps) (pairs_alternative op rt rs c q refl refl) (widened (omega arith) (omega arith) (then_words (load_words_lem c at_number) (one_word tt)))

  -- ---- lines

  single : {p : InstructionPair} → PairFits p.label → Words 1 5 (p ∷ [])
  single h = widened (omega arith) (omega arith) (one_word h)

  maybe_words : (op : Opcode) (first second : RegisterSlot) (v : Option InstructionValue) → Words 1 5 (inputs_pairs op first second v)
  maybe_words op first second None = single tt
  maybe_words op first second (Some v) = widened (omega arith) (omega arith) (then_words (value_words v) (one_more tt (one_word tt)))

  encoding_words : (job : Job) (e : Encoding) (op : Opcode) (x : AskedAll (encoding_wants e)) → AllFit names (encoding_wants e) x → encoding_range job e op x ≡ Ok tt → Words 1 5 (encoding_pairs job e op x)
  encoding_words job Register op x h r = widened (omega arith) (omega arith) (then_words (value_words x.2) (one_word tt))
  encoding_words job RegisterShift op x h r = single tt
  encoding_words job Source op x h r = single tt
  encoding_words job Destination op x h r = single tt
  encoding_words job Inputs op x h r = maybe_words op x.0 x.1 x.2
  encoding_words job Sham op x h r = single tt
  encoding_words job SpecialBranch op x h r = single h.1
  encoding_words job (Immediate alt) op x h r = widened (omega arith) (omega arith) (immediate_words op alt (register_number x.0) (register_number x.1) x.2 (then_within (kept_range job false op) (immediate_range alt x.2) r).1)
  encoding_words job LoadImmediate op x h r = single tt
  encoding_words job Jump op x h r = single h.0
  encoding_words job Branch op x h r = widened (omega arith) (omega arith) (then_words (value_words x.1) (one_word h.2))
  encoding_words job BranchZero op x h r = single h.1
  encoding_words job Parameterless op x h r = single tt
  encoding_words job Offset op x h r = widened (omega arith) (omega arith) (then_words (offset_words x.1 h.1) (one_word tt))
  encoding_words job FPOffset op x h r = widened (omega arith) (omega arith) (then_words (offset_words x.1 h.1) (one_word tt))
  encoding_words job (FP3Register fmt) op x h r = single tt
  encoding_words job (FP2Register fmt) op x h r = single tt
  encoding_words job (FPMove fmt flag) op x h r = single tt
  encoding_words job (FPCond fmt) op x h r = single tt
  encoding_words job (FPCrossMove true) op x h r = single tt
  encoding_words job (FPCrossMove false) op x h r = single tt
  encoding_words job (FPBranch flag) op x h r = single h.1

  turned_words : (result : Bool) (dest : RegisterSlot) → Words 0 1 (turned result dest)
  turned_words true dest = widened (omega arith) (omega arith) no_words
  turned_words false dest = widened (omega arith) (omega arith) (one_word tt)

  pseudo_words : (job : Job) (p : Pseudo) (x : AskedAll (pseudo_wants p)) → AllFit names (pseudo_wants p) x → Words 1 5 (pseudo_pairs job p x)
  pseudo_words job Nop x h = single tt
  pseudo_words job Abs x h = widened (omega arith) (omega arith) (one_more tt (one_more tt (one_word tt)))
  pseudo_words job (BranchCustom greater result unsigned) x h = widened (omega arith) (omega arith) (then_words (value_words x.1) (one_more tt (one_word h.2)))
  pseudo_words job (SetCustom greater result unsigned) x h = widened (omega arith) (omega arith) (then_words (value_words x.2) (one_more tt (turned_words result x.0)))
  pseudo_words job Beqz x h = single h.1
  pseudo_words job Bnez x h = single h.1
  pseudo_words job Seq x h = widened (omega arith) (omega arith) (then_words (then_words (value_words x.2) (one_more tt (one_word tt))) (turned_words false x.0))
  pseudo_words job Sne x h = widened (omega arith) (omega arith) (then_words (value_words x.2) (one_more tt (one_word tt)))
  pseudo_words job Neg x h = single tt
  pseudo_words job Negu x h = single tt
  pseudo_words job Not x h = single tt
  pseudo_words job Li x h = widened (omega arith) (omega arith) (load_words_lem x.1 (register_number x.0))
  pseudo_words job La x h = widened (omega arith) (omega arith) (label_words x.1 (register_number x.0) h.1)
  pseudo_words job Move x h = single tt
  pseudo_words job B x h = single h.0
  pseudo_words job Subi x h = widened (omega arith) (omega arith) (immediate_words (Op 8) (Some (Func 32)) (register_number x.0) (register_number x.1) (with_sign true x.2) refl)
  pseudo_words job Subiu x h = widened (omega arith) (omega arith) (immediate_words (Op 9) (Some (Func 33)) (register_number x.0) (register_number x.1) (with_sign true x.2) refl)

  -- ---- what was read, made into words

  line_words : {A : Type 0} (fits : A → Type 0) (range : A → Range) (pairs : A → List InstructionPair) (form : A → LoadForm) → ((x : A) → fits x → range x ≡ Ok tt → Words 1 5 (pairs x))
      → (a : Answer A) (i : ℕ) → Of fits a → (line_by a i range pairs form).answer ≡ Made → Words 1 5 (line_by a i range pairs form).pairs
  line_words fits range pairs form w (Got x) i h e = w x h (within_made (range x) e)
  line_words fits range pairs form w (Missed m) i h e =
      let z : ◌≡◌ {A = ℕ} 0 1 = cc in
      absurd (omega arith)

module _ (names : List ℕ) (ts : List Token) (fit : (i : ℕ) → TokenFits names (get_or ts i no_token)) where
  pub encoding_made : (job : Job) (e : Encoding) (op : Opcode) (i : ℕ) → (encoding_line job e op ts i).answer ≡ Made → Words names 1 5 (encoding_line job e op ts i).pairs
  unfolding encoding_line
  encoding_made job e op i =
      line_words names (AllFit names (encoding_wants e)) (encoding_range job e op) (encoding_pairs job e op) (encoding_form e) (encoding_words names job e op)
      (read_operands (encoding_wants e) ts i).answer (read_operands (encoding_wants e) ts i).index (operands_fit names ts fit (encoding_wants e) i)

  pub pseudo_made : (job : Job) (p : Pseudo) (i : ℕ) → (pseudo_line job p ts i).answer ≡ Made → Words names 1 5 (pseudo_line job p ts i).pairs
  unfolding pseudo_line
  pseudo_made job p i =
      line_words names (AllFit names (pseudo_wants p)) (λ x. Ok tt) (pseudo_pairs job p) (pseudo_form p) (λ x h r. pseudo_words names job p x h)
      (read_operands (pseudo_wants p) ts i).answer (read_operands (pseudo_wants p) ts i).index (operands_fit names ts fit (pseudo_wants p) i)
