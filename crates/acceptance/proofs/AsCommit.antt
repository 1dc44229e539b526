-- A job by the manual does what the commit does with every line and build that has none of the listed points. Assumes nothing.
use Rattle.std.specs.Prelude.{ℕ, ◌+◌, ◌/◌, ◌≤◌, ◌≡◌, refl, ◌⊎◌, true, false, List, ◌++◌, [], Err, Ok}
use Rattle.std.proofs.Common.{arith, sym, ap, subst, ◌∙◌, inl, inr, ⊎_elim, le-leb}
use Rattle.instructions.specs.declared.Opcode.{Opcode}
use Rattle.instructions.specs.declared.Size.TheVariants.{Single, Double, Word}
use Rattle.instructions.specs.declared.Encoding.{Encoding}
use Rattle.instructions.specs.declared.Encoding.TheVariants.{Register, RegisterShift, Source, Destination, Inputs, Sham, SpecialBranch, Immediate, LoadImmediate, Jump, Branch, BranchZero, Parameterless, Offset, FPOffset, FP3Register, FP2Register, FPMove, FPCond, FPCrossMove, FPBranch}
use Rattle.jobs.specs.declared.Job.{Job}
use Rattle.jobs.specs.declared.Job.TheVariants.{Commit, Manual}
use Rattle.pseudo_names.specs.declared.Pseudo.{Pseudo}
use Rattle.pseudo_names.specs.declared.Pseudo.TheVariants.{Nop, Abs, BranchCustom, SetCustom, Beqz, Bnez, Seq, Sne, Neg, Negu, Not, Li, La, Move, B, Subi, Subiu}
use Rattle.labels.specs.Labels.{Table as LabelTable, table_of}
use Rattle.lexer.specs.Tokens.{tokens, payload_of}
use Rattle.operand.specs.Answers.{Answer, Got, Missed}
use Rattle.operand_list.specs.OperandLists.{AskedAll, read_operands, read_operand}
use Rattle.descriptors.specs.Descriptors.{instruction_at}
use Rattle.descriptors.specs.Mnemonics.{mnemonic_name, mnemonic_location}
use Rattle.pending.specs.declared.InstructionLabelKind.{InstructionLabelKind}
use Rattle.pending.specs.declared.InstructionLabelKind.TheVariants.{Branch as BranchKind, Jump as JumpKind, Lower, Upper, Full}
use Rattle.pending.specs.Pendings.{pending_at}
use Rattle.patch.specs.Patches.{after, pc_of, region_for, branch_in_range, in_range, address_or}
use Rattle.finished_words.specs.Listed.{destination_at}
use Rattle.build_outcome.specs.Build.{build_outcome}
use Rattle.emit_dispatch.specs.Wants.{encoding_wants, pseudo_wants}
use Rattle.emit_dispatch.specs.Lines.{Line, pseudo_pairs, pseudo_form, line_by, pseudo_line}
use Rattle.emit_outcome.specs.Call.{Call, EmitOutcome}
use Rattle.emit_outcome.specs.Checks.{list_stop}
use Rattle.emit_outcome.specs.Room.{room_stop}
use Rattle.emit_outcome.specs.Answer.{EmitAnswer}
use Rattle.emit_outcome.specs.Dispatch.{meaning}
use Rattle.emit_outcome.specs.Emit.{start_of, accept_or, line_outcome, call_made, call_line, line_or_unknown, list_outcome, emit_outcome}
use Rattle.emit_outcome.specs.declared.Meaning.{Meaning}
use Rattle.emit_outcome.specs.declared.Meaning.TheVariants.{Table, Builtin, Neither}
use Rattle.finished_words.specs.InstanceTables.{labels₁, entry, regions, pending}
use Rattle.reading.specs.Premises.{Premises}
use Rattle.reading.proofs.Instance.{instance₁}
use Rattle.example_lists.specs.Lists.{register, integer, comma, «sll», descriptor, line}
use Rattle.names.specs.Names.{first_where}
use Rattle.record.specs.Bytes.{all, same_bytes}
use Rattle.record.specs.Records.{places, places_from, places_f}
use Rattle.operands.specs.Operands.{get_register, get_constant, get_integer, signed}
use Rattle.cursor.specs.Cursors.{passed, peek, step, next_adjacent, peek_adjacent}
use Rattle.pseudo_names.specs.PseudoNames.{pseudo_in}
use Rattle.emit_outcome.specs.Dispatch.{table_line}
use Rattle.emit_outcome.specs.Checks.{layout_stop}
use Rattle.emit_outcome.specs.Room.{edge_stop}
use Rattle.emit_bytes.specs.Appended.{word_bytes, pendings_bytes}
use Rattle.breakpoints.specs.BreakpointBytes.{pcs_bytes, pcs_from}
use Rattle.record.specs.Stores.{append}
use Rattle.emit_dispatch.specs.Lines.{encoding_line}
use Rattle.emit_pairs.specs.Pairs.{load_pairs, label_pairs, is_immediate, immediate_pairs}
use Rattle.breakpoints.specs.Breakpoints.{breakpoint_ok, filled_layout, pending_buffer_layout, breakpoint_buffer_layout, data_buffer_layout}
use Rattle.descriptors.specs.Descriptors.{fields_ok, descriptor_ok, descriptor_layout}
use Rattle.descriptors.specs.Mnemonics.{mnemonic_ok, one_mnemonic, mnemonic_layout}
use Rattle.assembler_util.specs.LabelOperands.{symbol_label, to_label, get_label, braced, after_label, get_offset_or_label}
use Rattle.operands.specs.Operands.{get_fp_register, get_cc, get_value}
use Rattle.pending.specs.Pendings.{pending_ok, kind_from, pending_layout}
use Rattle.address_label.specs.AddressLabels.{address_label_ok}
use Rattle.lexer.specs.Tokens.{payload_ok, token_ok, token_layout}
use Rattle.loading.specs.Load.{is_small, form_of, load_words}
use Rattle.names.specs.Names.{first_later}
use Rattle.refusal.specs.Verdicts.{first_stop, Verdict}
use Rattle.record.specs.Records.{first_bad, first_bad_of, within_limit}
use Rattle.example_lists.specs.Lists.{as_bytes, «abs»}
use Rattle.build_outcome.specs.Build.{build_verdict, layout_verdicts, write_patches, order_from, keep}
use Rattle.patch.specs.Patches.{write_pending, pending_verdict, reach_verdict, jump_in_range, field_value, field_width, destination}
use Rattle.address_label.specs.Entries.{entry_layout, entry_ok}
use Rattle.regions.specs.Regions.{region_layout, region_records, region_ok}
use Rattle.labels.specs.Labels.{resolve, label_layout, label_ok}
use Rattle.field.specs.Field.{set_field}
use Rattle.acceptance.proofs.SameOutcome.{meaning_outcome, SameEncoded, SameRead, meaning_same, line_by_lem, build_same}
use Rattle.acceptance.specs.Unlisted.{Unlisted, UnlistedRead, IsRefused, UnlistedMeaning, UnlistedCall, UnlistedBuild}

-- ---- lines

encoding_same : (e : Encoding) (op : Opcode) (x : AskedAll (encoding_wants e)) → Unlisted e x → SameEncoded Manual Commit e op x
encoding_same Register op x h = (refl, refl)
encoding_same RegisterShift op x h = (refl, refl)
encoding_same Source op x h = (refl, refl)
encoding_same Destination op x h = (refl, refl)
encoding_same Inputs op x h = (refl, refl)
encoding_same Sham op x h = (rw (le-leb x.2 31 h), refl)
encoding_same SpecialBranch op x h = (refl, refl)
encoding_same (Immediate alt) op x h = (refl, refl)
encoding_same LoadImmediate op x h = (refl, refl)
encoding_same Jump op x h = (refl, refl)
encoding_same Branch op x h = (refl, refl)
encoding_same BranchZero op x h = (refl, refl)
encoding_same Parameterless op x h = (refl, refl)
encoding_same Offset op x h = (refl, refl)
encoding_same FPOffset op x h = (refl, refl)
encoding_same (FP3Register Single) op x h = (refl, refl)
encoding_same (FP3Register Double) op x h = (refl, refl)
encoding_same (FP3Register Word) op x h = absurd (h refl)
encoding_same (FP2Register Single) op x h = (refl, refl)
encoding_same (FP2Register Double) op x h = (refl, refl)
encoding_same (FP2Register Word) op x h = absurd (h refl)
encoding_same (FPMove Single flag) op x h = (rw (le-leb x.2 7 h.1), refl)
encoding_same (FPMove Double flag) op x h = (rw (le-leb x.2 7 h.1), refl)
encoding_same (FPMove Word flag) op x h = absurd (h.0 refl)
encoding_same (FPCond Single) op x h = (rw (le-leb x.0 7 h.1), refl)
encoding_same (FPCond Double) op x h = (rw (le-leb x.0 7 h.1), refl)
encoding_same (FPCond Word) op x h = absurd (h.0 refl)
encoding_same (FPCrossMove true) op x h = (refl, refl)
encoding_same (FPCrossMove false) op x h = (refl, refl)
encoding_same (FPBranch flag) op x h = (rw (le-leb x.0 7 h), refl)

read_same : (e : Encoding) (op : Opcode) (a : Answer (AskedAll (encoding_wants e))) → UnlistedRead e a → SameRead Manual Commit e op a
read_same e op (Got x) h = encoding_same e op x h
read_same e op (Missed m) h = tt

-- Every pseudo-instruction has the commit's words, except abs.
same_or_abs : (p : Pseudo) → ((x : AskedAll (pseudo_wants p)) → pseudo_pairs Manual p x ≡ pseudo_pairs Commit p x) ⊎ (p ≡ Abs)
same_or_abs Nop = inl (λ x. refl)
same_or_abs Abs = inr refl
same_or_abs (BranchCustom greater result unsigned) = inl (λ x. refl)
same_or_abs (SetCustom greater result unsigned) = inl (λ x. refl)
same_or_abs Beqz = inl (λ x. refl)
same_or_abs Bnez = inl (λ x. refl)
same_or_abs Seq = inl (λ x. refl)
same_or_abs Sne = inl (λ x. refl)
same_or_abs Neg = inl (λ x. refl)
same_or_abs Negu = inl (λ x. refl)
same_or_abs Not = inl (λ x. refl)
same_or_abs Li = inl (λ x. refl)
same_or_abs La = inl (λ x. refl)
same_or_abs Move = inl (λ x. refl)
same_or_abs B = inl (λ x. refl)
same_or_abs Subi = inl (λ x. refl)
same_or_abs Subiu = inl (λ x. refl)

-- Both jobs have three words without labels for abs, so lack of room stops both alike.
abs_same : (c : Call) → IsRefused (call_line c (pseudo_line Commit Abs (tokens c.token_list) (start_of c))).answer
    → call_line c (pseudo_line Manual Abs (tokens c.token_list) (start_of c)) ≡ call_line c (pseudo_line Commit Abs (tokens c.token_list) (start_of c))
unfolding pseudo_line line_outcome room_stop
abs_same c h = go (read_operands (pseudo_wants Abs) (tokens c.token_list) (start_of c)).answer h
  where
    i : ℕ
    i = (read_operands (pseudo_wants Abs) (tokens c.token_list) (start_of c)).index

    made : Job → Answer (AskedAll (pseudo_wants Abs)) → Line
    made job a = line_by a i (λ x. Ok tt) (pseudo_pairs job Abs) (pseudo_form Abs)

    stopped : (x : AskedAll (pseudo_wants Abs)) (v : Verdict) → IsRefused (accept_or c.token_list (mnemonic_location c.mnemonic) c.numbers c.lent (made Commit (Got x)) v).answer
        → accept_or c.token_list (mnemonic_location c.mnemonic) c.numbers c.lent (made Manual (Got x)) v
        ≡ accept_or c.token_list (mnemonic_location c.mnemonic) c.numbers c.lent (made Commit (Got x)) v
    stopped x (Ok tt) h = absurd h
    stopped x (Err r) h = refl

    go : (a : Answer (AskedAll (pseudo_wants Abs))) → IsRefused (call_line c (made Commit a)).answer → call_line c (made Manual a) ≡ call_line c (made Commit a)
    go (Got x) h = stopped x (room_stop c.token_list (mnemonic_location c.mnemonic) c.numbers c.lent (pseudo_pairs Commit Abs x)) h
    go (Missed m) h = refl

-- If the lists have no fault, the line decides what the commit answers.
commit_line : (c : Call) → list_stop c.token_list c.mnemonic c.descriptors c.lent c.numbers.place.region c.numbers.counts ≡ Ok tt
    → emit_outcome Commit c ≡ line_or_unknown c (call_made Commit c)
unfolding emit_outcome
commit_line c e = ap (list_outcome Commit c) e

meaning_as_commit : (c : Call) (m : Meaning) → emit_outcome Commit c ≡ meaning_outcome Commit c m → UnlistedMeaning c m → meaning_outcome Manual c m ≡ meaning_outcome Commit c m
meaning_as_commit c (Table p) e h =
    let i = instruction_at c.descriptors p in
    meaning_same Manual Commit c (Table p) (read_same i.encoding i.opcode (read_operands (encoding_wants i.encoding) (tokens c.token_list) (start_of c)).answer h)
meaning_as_commit c (Builtin p) e h = ⊎_elim (λ s. meaning_same Manual Commit c (Builtin p) s) of_abs (same_or_abs p)
  where
    of_abs : p ≡ Abs → meaning_outcome Manual c (Builtin p) ≡ meaning_outcome Commit c (Builtin p)
    of_abs q =
        let r : IsRefused (meaning_outcome Commit c (Builtin Abs)).answer = subst (λ (a : EmitAnswer). IsRefused a) (ap (λ (o : EmitOutcome). o.answer) (e ∙ ap (λ (b : Pseudo). meaning_outcome Commit c (Builtin b)) q)) (h q) in
        ap (λ (b : Pseudo). meaning_outcome Manual c (Builtin b)) q ∙ abs_same c r ∙ sym (ap (λ (b : Pseudo). meaning_outcome Commit c (Builtin b)) q)
meaning_as_commit c Neither e h = refl

-- the whole outcome of a line: answer, position, counts and every lent byte
pub line_as_commit : (c : Call) → UnlistedCall c → emit_outcome Manual c ≡ emit_outcome Commit c
line_as_commit c h = line_by_lem Manual Commit c (λ e. meaning_as_commit c (meaning c.descriptors (mnemonic_name c.mnemonic)) (commit_line c e) h)

-- ---- builds

range_same : (kind : InstructionLabelKind) (pc dest : ℕ) → (kind ≡ BranchKind → (after pc / 4 ≤ dest / 4 + 32768) × (dest / 4 ≤ after pc / 4 + 32767))
    → in_range Manual kind pc dest ≡ in_range Commit kind pc dest
unfolding in_range branch_in_range
range_same BranchKind pc dest h =
    let b = h refl in
    rw (
      le-leb (after pc / 4) (dest / 4 + 32768) b.0,
      le-leb (dest / 4) (after pc / 4 + 32767) b.1,
      le-leb (after pc / 4) (dest / 4 + 0x10000) (omega (arith, b.0)),
      le-leb (dest / 4) (after pc / 4 + 0xFFFF) (omega (arith, b.1)),
    )
range_same JumpKind pc dest h = refl
range_same Lower pc dest h = refl
range_same Upper pc dest h = refl
range_same Full pc dest h = refl

-- the whole outcome of a build: its answer and every byte of the region list
pub build_as_commit : (labels : LabelTable) (regions pending : List ℕ) → UnlistedBuild labels regions pending → (entry : List ℕ)
    → build_outcome Manual labels entry regions pending ≡ build_outcome Commit labels entry regions pending
build_as_commit labels regions pending unlisted =
    build_same Manual Commit labels regions pending
    (λ p dest m e.
    let q = pending_at pending p in
    range_same q.kind (pc_of (region_for regions q) q) dest (λ k. unlisted p dest m k e))

-- A build that meets the tender's premises has none of the listed points.
pub premises_as_commit : (labels : LabelTable) (entry regions pending : List ℕ) → Premises Commit labels entry regions pending
    → build_outcome Manual labels entry regions pending ≡ build_outcome Commit labels entry regions pending
premises_as_commit labels entry regions pending pr =
    build_as_commit labels regions pending
    (λ p dest m k e. let d : destination_at labels pending p ≡ dest = ap (address_or 0) e in rw (d) at (pr.near refl p m k))
    entry

-- ---- such a build, and such a line: sll $t0,$t1,31 (Func 0)

pub met_build : build_outcome Manual (table_of labels₁) entry regions pending ≡ build_outcome Commit (table_of labels₁) entry regions pending
met_build = premises_as_commit (table_of labels₁) entry regions pending (instance₁ Commit)

abbrev pub sll31 : Call
sll31 = line «sll» (descriptor 1 0 5 «sll») (register 8 ++ comma ++ register 9 ++ comma ++ integer 31)

pub met_line : emit_outcome Manual sll31 ≡ emit_outcome Commit sll31
unfolding meaning mnemonic_name first_where all same_bytes places places_from places_f tokens payload_of read_operands read_operand get_register get_constant get_integer signed passed peek step next_adjacent peek_adjacent pseudo_in
met_line = line_as_commit sll31 (omega arith)

-- and a refused abs: abs $t0 lacks its source
abbrev abs_alone : Call
abs_alone = line «abs» [] (register 8)

pub met_abs : emit_outcome Manual abs_alone ≡ emit_outcome Commit abs_alone
unfolding emit_outcome line_outcome table_line list_stop layout_stop room_stop edge_stop meaning word_bytes pendings_bytes pcs_bytes append pseudo_in pseudo_line encoding_line load_pairs label_pairs is_immediate immediate_pairs breakpoint_ok filled_layout pending_buffer_layout breakpoint_buffer_layout data_buffer_layout fields_ok descriptor_ok descriptor_layout mnemonic_ok one_mnemonic mnemonic_layout mnemonic_name read_operand read_operands symbol_label to_label get_label braced after_label get_offset_or_label get_register get_fp_register get_cc signed get_integer get_constant get_value passed peek step next_adjacent peek_adjacent pending_ok address_label_ok payload_of payload_ok token_ok token_layout tokens is_small form_of load_words first_where first_later first_stop places_f places_from places first_bad first_bad_of within_limit all same_bytes as_bytes pcs_from build_outcome build_verdict layout_verdicts write_patches write_pending pending_verdict reach_verdict order_from keep in_range jump_in_range branch_in_range field_value field_width destination kind_from pending_layout entry_layout entry_ok region_layout region_records region_ok resolve label_layout label_ok set_field
met_abs = line_as_commit abs_alone (λ q. tt)
