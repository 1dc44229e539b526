-- If two kinds of job make the same of a line, or of each branch of a build, they have the same outcome. Assumes nothing.
use Rattle.std.specs.Prelude.{ℕ, ◌+◌, ◌≡◌, leb, Err, None, Ok, Option, Some}
use Rattle.std.proofs.Math.Path.{refl, ap, ap₂}
use Rattle.std.proofs.Math.Bool.{true, false}
use mathlib.Core.List.{List, [], ◌∷◌, Memᴰ}
use Rattle.instructions.specs.declared.Opcode.{Opcode}
use Rattle.instructions.specs.declared.Encoding.{Encoding}
use Rattle.jobs.specs.declared.Job.{Job}
use Rattle.jobs.specs.Jobs.{abs_first_word}
use Rattle.registers.specs.Numbers.{register_number}
use Rattle.pseudo_names.specs.declared.Pseudo.{Pseudo}
use Rattle.pseudo_names.specs.declared.Pseudo.TheVariants.{Nop, Abs, BranchCustom, SetCustom, Beqz, Bnez, Seq, Sne, Neg, Negu, Not, Li, La, Move, B, Subi, Subiu}
use Rattle.refusal.specs.Verdicts.{and_then, first_stop, Verdict}
use Rattle.refusal.specs.declared.Refusal.TheVariants.{PatchPastEnd}
use Rattle.labels.specs.Labels.{Table as LabelTable}
use Rattle.lexer.specs.declared.Token.{Token}
use Rattle.lexer.specs.Tokens.{tokens}
use Rattle.operand.specs.Answers.{Answer, Got, Missed}
use Rattle.operand_list.specs.OperandLists.{AskedAll, read_operands}
use Rattle.descriptors.specs.Descriptors.{instruction_at}
use Rattle.descriptors.specs.Mnemonics.{mnemonic_name}
use Rattle.regions.specs.declared.Region.{Region}
use Rattle.pending.specs.declared.Pending.{Pending}
use Rattle.pending.specs.Pendings.{pending_at}
use Rattle.patch.specs.Patches.{pc_of, region_for, destination, in_range, reach_verdict, pending_verdict}
use Rattle.finished_words.specs.Listed.{In}
use Rattle.build_outcome.specs.Build.{patch_order, patch_verdict, build_verdict, build_outcome}
use Rattle.build_outcome.proofs.BuildLaws.{ordered_in}
use Rattle.emit_dispatch.specs.Wants.{encoding_wants, pseudo_wants}
use Rattle.emit_dispatch.specs.Lines.{encoding_range, encoding_pairs, encoding_form, pseudo_pairs, pseudo_form, line_by, encoding_line, pseudo_line}
use Rattle.emit_outcome.specs.Call.{Call, EmitOutcome}
use Rattle.emit_outcome.specs.Checks.{list_stop}
use Rattle.emit_outcome.specs.Dispatch.{meaning, table_line, meaning_line}
use Rattle.emit_outcome.specs.Emit.{start_of, call_made, call_line, line_or_unknown, list_outcome, emit_outcome}
use Rattle.emit_outcome.specs.declared.Meaning.{Meaning}
use Rattle.emit_outcome.specs.declared.Meaning.TheVariants.{Table, Builtin, Neither}

-- the outcome of a call whose mnemonic has this meaning
abbrev pub meaning_outcome : Job → Call → Meaning → EmitOutcome
meaning_outcome job c m = line_or_unknown c (meaning_line job c.descriptors m (tokens c.token_list) (start_of c))

module _ (j k : Job) where
  -- ---- lines

  abbrev pub SameEncoded : (e : Encoding) → Opcode → AskedAll (encoding_wants e) → Type 0
  SameEncoded e op x = (encoding_range j e op x ≡ encoding_range k e op x) × (encoding_pairs j e op x ≡ encoding_pairs k e op x)

  -- a line whose operands were not read is the same in every job
  abbrev pub SameRead : (e : Encoding) → Opcode → Answer (AskedAll (encoding_wants e)) → Type 0
  SameRead e op (Got x) = SameEncoded e op x
  SameRead e op (Missed m) = Unit {0}

  table_same : (e : Encoding) (op : Opcode) (ts : List Token) (i : ℕ) → SameRead e op (read_operands (encoding_wants e) ts i).answer → encoding_line j e op ts i ≡ encoding_line k e op ts i
  unfolding encoding_line
  table_same e op ts i h = go (read_operands (encoding_wants e) ts i).answer h
    where
      go : (a : Answer (AskedAll (encoding_wants e))) → SameRead e op a
          → line_by a (read_operands (encoding_wants e) ts i).index (encoding_range j e op) (encoding_pairs j e op) (encoding_form e)
          ≡ line_by a (read_operands (encoding_wants e) ts i).index (encoding_range k e op) (encoding_pairs k e op) (encoding_form e)
      go (Got x) s = rw (s.0, s.1)
      go (Missed m) s = refl

  -- Jobs differ in one pseudo-instruction at most: abs.
  pub pseudo_same : (p : Pseudo) → (p ≡ Abs → (rt : ℕ) → abs_first_word j rt ≡ abs_first_word k rt) → (x : AskedAll (pseudo_wants p)) → pseudo_pairs j p x ≡ pseudo_pairs k p x
  pseudo_same Nop h x = refl
  pseudo_same Abs h x = rw (h refl (register_number x.1))
  pseudo_same (BranchCustom greater result unsigned) h x = refl
  pseudo_same (SetCustom greater result unsigned) h x = refl
  pseudo_same Beqz h x = refl
  pseudo_same Bnez h x = refl
  pseudo_same Seq h x = refl
  pseudo_same Sne h x = refl
  pseudo_same Neg h x = refl
  pseudo_same Negu h x = refl
  pseudo_same Not h x = refl
  pseudo_same Li h x = refl
  pseudo_same La h x = refl
  pseudo_same Move h x = refl
  pseudo_same B h x = refl
  pseudo_same Subi h x = refl
  pseudo_same Subiu h x = refl

  builtin_same : (p : Pseudo) (ts : List Token) (i : ℕ) → ((x : AskedAll (pseudo_wants p)) → pseudo_pairs j p x ≡ pseudo_pairs k p x) → pseudo_line j p ts i ≡ pseudo_line k p ts i
  unfolding pseudo_line
  builtin_same p ts i h = go (read_operands (pseudo_wants p) ts i).answer
    where
      go : (a : Answer (AskedAll (pseudo_wants p)))
          → line_by a (read_operands (pseudo_wants p) ts i).index (λ x. Ok tt) (pseudo_pairs j p) (pseudo_form p)
          ≡ line_by a (read_operands (pseudo_wants p) ts i).index (λ x. Ok tt) (pseudo_pairs k p) (pseudo_form p)
      go (Got x) = rw (h x)
      go (Missed m) = refl

  abbrev pub SameMeaning : Call → Meaning → Type 0
  SameMeaning c (Table p) =
      let i = instruction_at c.descriptors p in
      SameRead i.encoding i.opcode (read_operands (encoding_wants i.encoding) (tokens c.token_list) (start_of c)).answer
  SameMeaning c (Builtin p) = (x : AskedAll (pseudo_wants p)) → pseudo_pairs j p x ≡ pseudo_pairs k p x
  SameMeaning c Neither = Unit {0}

  pub meaning_same : (c : Call) (m : Meaning) → SameMeaning c m → meaning_outcome j c m ≡ meaning_outcome k c m
  unfolding table_line
  meaning_same c (Table p) h =
      let i = instruction_at c.descriptors p in
      ap (call_line c) (table_same i.encoding i.opcode (tokens c.token_list) (start_of c) h)
  meaning_same c (Builtin p) h = ap (call_line c) (builtin_same p (tokens c.token_list) (start_of c) h)
  meaning_same c Neither h = refl

  -- If the lists have no fault, the line decides.
  pub line_by_lem : (c : Call)
      → (list_stop c.token_list c.mnemonic c.descriptors c.lent c.numbers.place.region c.numbers.counts ≡ Ok tt
      → line_or_unknown c (call_made j c) ≡ line_or_unknown c (call_made k c))
      → emit_outcome j c ≡ emit_outcome k c
  unfolding emit_outcome
  line_by_lem c h = go (list_stop c.token_list c.mnemonic c.descriptors c.lent c.numbers.place.region c.numbers.counts) refl
    where
      go : (v : Verdict) → list_stop c.token_list c.mnemonic c.descriptors c.lent c.numbers.place.region c.numbers.counts ≡ v
          → list_outcome j c v ≡ list_outcome k c v
      go (Err r) e = refl
      go (Ok tt) e = h e

  -- the whole outcome of a line: answer, position, counts and every lent byte
  pub line_same : (c : Call) → SameMeaning c (meaning c.descriptors (mnemonic_name c.mnemonic)) → emit_outcome j c ≡ emit_outcome k c
  line_same c h = line_by_lem c (λ e. meaning_same c (meaning c.descriptors (mnemonic_name c.mnemonic)) h)

  -- ---- builds

  abbrev pub SamePatches : (labels : LabelTable) (regions pending : List ℕ) → Type 0
  SamePatches labels regions pending = (p dest : ℕ) → In pending p → destination labels pending (pending_at pending p).label ≡ Some dest
      → let pc = pc_of (region_for regions (pending_at pending p)) (pending_at pending p) in
      in_range j (pending_at pending p).kind pc dest ≡ in_range k (pending_at pending p).kind pc dest

  module _ (labels : LabelTable) (regions pending : List ℕ) (same : SamePatches labels regions pending) where
    patch_same : (p : ℕ) → In pending p → patch_verdict j labels regions pending p ≡ patch_verdict k labels regions pending p
    unfolding pending_verdict reach_verdict
    patch_same p m =
        ap (λ (v : Verdict). elim (leb (q.offset + 4) g.size) [ true ↦ v | false ↦ Err (PatchPastEnd q.location) ])
        (reach (destination labels pending q.label) refl)
      where
        q : Pending
        q = pending_at pending p

        g : Region
        g = region_for regions q

        reach : (a : Option ℕ) → destination labels pending q.label ≡ a → reach_verdict j q (pc_of g q) a ≡ reach_verdict k q (pc_of g q) a
        reach (Some dest) e = rw (same p dest m e, reach_verdict)
        reach None e = refl

    patches_same : (ps : List ℕ) → ((p : ℕ) → Memᴰ p ps → In pending p)
        → first_stop (patch_verdict j labels regions pending) ps ≡ first_stop (patch_verdict k labels regions pending) ps
    unfolding first_stop
    patches_same [] h = refl
    patches_same (p ∷ ps) h = ap₂ and_then (patch_same p (h p (Memᴰ.head refl))) (patches_same ps (λ q m. h q (Memᴰ.tail m)))

    -- the whole outcome of a build: its answer and every byte of the region list
    pub build_same : (entry : List ℕ) → build_outcome j labels entry regions pending ≡ build_outcome k labels entry regions pending
    unfolding build_outcome build_verdict
    build_same entry = rw (patches_same (patch_order regions pending) (ordered_in regions pending))
