-- A line for a Release 6 board is the manual's, except at the two listed points. Its build is the manual one. Assumes nothing.
use Rattle.std.specs.Prelude.{ℕ, ◌%◌, ◌≡◌, refl, Bool, true, false, List, leb, eqb, Err, None, Ok, Option, Some}
use Rattle.std.proofs.Common.{sym, ap, ap₂, ◌∙◌, eqb-true}
use Rattle.instructions.specs.declared.Opcode.{Opcode}
use Rattle.instructions.specs.declared.Opcode.TheVariants.{Op, Func, Special, Algebra, Cop1, Cop1I}
use Rattle.instructions.specs.declared.Encoding.{Encoding}
use Rattle.instructions.specs.declared.Encoding.TheVariants.{Register, RegisterShift, Source, Destination, Inputs, Sham, SpecialBranch, Immediate, LoadImmediate, Jump, Branch, BranchZero, Parameterless, Offset, FPOffset, FP3Register, FP2Register, FPMove, FPCond, FPCrossMove, FPBranch}
use Rattle.jobs.specs.declared.Job.{Job}
use Rattle.jobs.specs.declared.Job.TheVariants.{Manual, Release6}
use Rattle.jobs.specs.Jobs.{is_function, source_opcode}
use Rattle.refusal.specs.declared.Refusal.TheVariants.{DroppedInstruction}
use Rattle.lexer.specs.declared.Token.{Token}
use Rattle.lexer.specs.Tokens.{payload_of, payload_ok, token_ok, token_layout, tokens}
use Rattle.operand.specs.Answers.{Answer, Got, Missed}
use Rattle.operand_list.specs.OperandLists.{AskedAll, read_operand, read_operands}
use Rattle.descriptors.specs.Descriptors.{fields_ok, descriptor_ok, descriptor_layout, instruction_at}
use Rattle.descriptors.specs.Mnemonics.{mnemonic_ok, one_mnemonic, mnemonic_layout, mnemonic_name, mnemonic_location}
use Rattle.labels.specs.Labels.{Table as LabelTable}
use Rattle.pending.specs.declared.InstructionLabelKind.{InstructionLabelKind}
use Rattle.pending.specs.declared.InstructionLabelKind.TheVariants.{Branch as BranchKind, Jump as JumpKind, Lower, Upper, Full}
use Rattle.pending.specs.Pendings.{pending_at}
use Rattle.patch.specs.Patches.{pc_of, region_for, branch_in_range, in_range}
use Rattle.build_outcome.specs.Build.{build_outcome}
use Rattle.emit_pairs.specs.declared.Fault.{Fault}
use Rattle.emit_pairs.specs.declared.Fault.TheVariants.{Immediate as ImmediateFault, ShiftAmount, ConditionCode, Dropped}
use Rattle.emit_pairs.specs.declared.InstructionPair.{InstructionPair}
use Rattle.emit_pairs.specs.Pairs.{is_immediate, immediate_range, Range}
use Rattle.emit_dispatch.specs.Wants.{encoding_wants}
use Rattle.emit_dispatch.specs.Lines.{within_or, range_then, encoding_range, encoding_pairs, encoding_form, line_by, encoding_line}
use Rattle.emit_outcome.specs.Call.{Call}
use Rattle.emit_outcome.specs.Checks.{layout_stop, list_stop}
use Rattle.emit_outcome.specs.Dispatch.{meaning, table_line}
use Rattle.emit_outcome.specs.Emit.{start_of, call_line, refuse, fault_refusal, line_outcome, list_outcome, emit_outcome}
use Rattle.emit_outcome.specs.declared.Meaning.{Meaning}
use Rattle.emit_outcome.specs.declared.Meaning.TheVariants.{Table, Builtin, Neither}
use Rattle.registers.specs.declared.RegisterSlot.TheVariants.{Temporary0}
use Rattle.record.specs.Bytes.{all, same_bytes}
use Rattle.record.specs.Records.{places_f, places_from, places, first_bad, first_bad_of, within_limit}
use Rattle.names.specs.Names.{first_where, first_later}
use Rattle.pseudo_names.specs.PseudoNames.{pseudo_in}
use Rattle.pending.specs.Pendings.{pending_ok}
use Rattle.cursor.specs.Cursors.{passed, peek, step, next_adjacent, peek_adjacent}
use Rattle.operands.specs.Operands.{get_register, get_constant, get_integer, signed}
use Rattle.breakpoints.specs.Breakpoints.{breakpoint_ok, filled_layout, pending_buffer_layout, breakpoint_buffer_layout, data_buffer_layout}
use Rattle.example_lists.specs.Lists.{register, «jr», «mflo», descriptor, line}
use Rattle.acceptance.proofs.AsCommit.{sll31}
use Rattle.acceptance.proofs.SameOutcome.{meaning_outcome, SameRead, SameMeaning, pseudo_same, line_same, build_same}
use Rattle.acceptance.specs.Changed.{is_listed27, dropped_or, UnchangedRead, UnchangedMeaning, UnchangedCall, TableCall}

-- ---- the order of refusals in a Release 6 job: 19 and 20 as in a manual job, then 27, then 9

abbrev dropping : Bool → Range
dropping d = elim d [ true ↦ Err Dropped | false ↦ Ok tt ]

-- If none of 19, 20 and 9 is due, 27 alone decides.
alone : (d : Bool) → range_then (dropping d) (Ok tt) ≡ dropped_or d (Ok tt)
alone true = refl
alone false = refl

-- 19 and 20 are tested before 27.
first_then : (fault : Fault) → ((d : Bool) → dropped_or d (Err fault) ≡ Err fault) → (b d : Bool)
    → range_then (within_or fault b) (range_then (dropping d) (Ok tt)) ≡ dropped_or d (range_then (within_or fault b) (Ok tt))
first_then fault stays true d = alone d
first_then fault stays false d = sym (stays d)

shift_then : (b d : Bool) → range_then (within_or ShiftAmount b) (range_then (dropping d) (Ok tt)) ≡ dropped_or d (range_then (within_or ShiftAmount b) (Ok tt))
shift_then = first_then ShiftAmount (λ d. refl)

code_then : (b d : Bool) → range_then (within_or ConditionCode b) (range_then (dropping d) (Ok tt)) ≡ dropped_or d (range_then (within_or ConditionCode b) (Ok tt))
code_then = first_then ConditionCode (λ d. refl)

-- 9 is tested after 27.
then_immediate : (alt : Option Opcode) (c : ℕ) (d : Bool) → range_then (dropping d) (immediate_range alt c) ≡ dropped_or d (immediate_range alt c)
then_immediate (Some alt) c true = refl
then_immediate (Some alt) c false = refl
then_immediate None c d = go (is_immediate c) d
  where
    go : (b d : Bool) → range_then (dropping d) (within_or ImmediateFault b) ≡ dropped_or d (within_or ImmediateFault b)
    go true true = refl
    go true false = refl
    go false true = refl
    go false false = refl

pub range_as_manual : (e : Encoding) (op : Opcode) (x : AskedAll (encoding_wants e)) → encoding_range Release6 e op x ≡ dropped_or (is_listed27 e op x) (encoding_range Manual e op x)
range_as_manual Register op x = alone (is_function 18 op)
range_as_manual RegisterShift op x = alone (is_function 18 op)
range_as_manual Source op x = alone (is_function 18 op)
range_as_manual Destination op x = alone (is_function 18 op)
range_as_manual Inputs op x = alone (is_listed27 Inputs op x)
range_as_manual Sham op x = shift_then (leb x.2 31) (is_function 18 op)
range_as_manual SpecialBranch op x = alone (is_function 18 op)
range_as_manual (Immediate alt) op x = then_immediate alt x.2 (is_function 18 op)
range_as_manual LoadImmediate op x = alone (is_function 18 op)
range_as_manual Jump op x = alone (is_function 18 op)
range_as_manual Branch op x = alone (is_function 18 op)
range_as_manual BranchZero op x = alone (is_function 18 op)
range_as_manual Parameterless op x = alone (is_function 18 op)
range_as_manual Offset op x = alone (is_function 18 op)
range_as_manual FPOffset op x = alone (is_function 18 op)
range_as_manual (FP3Register fmt) op x = alone (is_function 18 op)
range_as_manual (FP2Register fmt) op x = alone (is_function 18 op)
range_as_manual (FPMove fmt flag) op x = code_then (leb x.2 7) (is_function 18 op)
range_as_manual (FPCond fmt) op x = code_then (leb x.0 7) (is_function 18 op)
range_as_manual (FPCrossMove flag) op x = alone (is_function 18 op)
range_as_manual (FPBranch flag) op x = code_then (leb x.0 7) (is_function 18 op)

-- ---- the words: the manual's, except for function 8 under Source

source_by : (op : Opcode) {b : Bool} → is_function 8 op ≡ b → source_opcode Release6 op ≡ elim b [ true ↦ Func 9 | false ↦ op ]
source_by op e = ap (λ (b : Bool). elim b [ true ↦ Func 9 | false ↦ op ]) e

pub pairs_as_manual : (e : Encoding) (op : Opcode) (x : AskedAll (encoding_wants e)) → (e ≡ Source → is_function 8 op ≡ false) → encoding_pairs Release6 e op x ≡ encoding_pairs Manual e op x
pairs_as_manual Register op x h = refl
pairs_as_manual RegisterShift op x h = refl
pairs_as_manual Source op x h = ap (λ (o : Opcode). encoding_pairs Manual Source o x) (source_by op (h refl))
pairs_as_manual Destination op x h = refl
pairs_as_manual Inputs op x h = refl
pairs_as_manual Sham op x h = refl
pairs_as_manual SpecialBranch op x h = refl
pairs_as_manual (Immediate alt) op x h = refl
pairs_as_manual LoadImmediate op x h = refl
pairs_as_manual Jump op x h = refl
pairs_as_manual Branch op x h = refl
pairs_as_manual BranchZero op x h = refl
pairs_as_manual Parameterless op x h = refl
pairs_as_manual Offset op x h = refl
pairs_as_manual FPOffset op x h = refl
pairs_as_manual (FP3Register fmt) op x h = refl
pairs_as_manual (FP2Register fmt) op x h = refl
pairs_as_manual (FPMove fmt flag) op x h = refl
pairs_as_manual (FPCond fmt) op x h = refl
pairs_as_manual (FPCrossMove true) op x h = refl
pairs_as_manual (FPCrossMove false) op x h = refl
pairs_as_manual (FPBranch flag) op x h = refl

-- ---- a line with neither point: its whole outcome, answer, position, counts and every lent byte

kept_stays : (r : Range) → dropped_or false r ≡ r
kept_stays (Ok tt) = refl
kept_stays (Err ImmediateFault) = refl
kept_stays (Err ShiftAmount) = refl
kept_stays (Err ConditionCode) = refl
kept_stays (Err Dropped) = refl

read_same : (e : Encoding) (op : Opcode) (a : Answer (AskedAll (encoding_wants e))) → UnchangedRead e op a → SameRead Release6 Manual e op a
read_same e op (Got x) h =
    (range_as_manual e op x ∙ ap (λ (d : Bool). dropped_or d (encoding_range Manual e op x)) h.0 ∙ kept_stays (encoding_range Manual e op x), pairs_as_manual e op x h.1)
read_same e op (Missed m) h = tt

meaning_same : (c : Call) (m : Meaning) → UnchangedMeaning c m → SameMeaning Release6 Manual c m
meaning_same c (Table p) h =
    let i = instruction_at c.descriptors p in
    read_same i.encoding i.opcode (read_operands (encoding_wants i.encoding) (tokens c.token_list) (start_of c)).answer h
meaning_same c (Builtin p) h = pseudo_same Release6 Manual p (λ q rt. refl)
meaning_same c Neither h = tt

pub line_as_manual : (c : Call) → UnchangedCall c → emit_outcome Release6 c ≡ emit_outcome Manual c
line_as_manual c h = line_same Release6 Manual c (meaning_same c (meaning c.descriptors (mnemonic_name c.mnemonic)) h)

-- ---- a line of the descriptor table, whose lists have no fault

table_outcome : (job : Job) (c : Call) (p : ℕ) → TableCall c p
    → let i = instruction_at c.descriptors p in
    emit_outcome job c ≡ call_line c (encoding_line job i.encoding i.opcode (tokens c.token_list) (start_of c))
unfolding emit_outcome table_line
table_outcome job c p h = ap (list_outcome job c) h.lists_pass ∙ ap (meaning_outcome job c) h.found

-- If the job does not take what was read, the line is refused at the position behind its operands.
pub outside_line : (job : Job) (c : Call) (p : ℕ) → TableCall c p
    → let i = instruction_at c.descriptors p in
    let read = read_operands (encoding_wants i.encoding) (tokens c.token_list) (start_of c) in
    (x : AskedAll (encoding_wants i.encoding)) → read.answer ≡ Got x → (fault : Fault) → encoding_range job i.encoding i.opcode x ≡ Err fault
    → emit_outcome job c ≡ refuse c.numbers.counts c.lent read.index (fault_refusal (mnemonic_location c.mnemonic) fault)
unfolding line_outcome encoding_line
outside_line job c p h x r fault o = table_outcome job c p h ∙ rw (r, o)

-- function 8 is not 18
eight_kept : (op : Opcode) → is_function 8 op ≡ true → is_function 18 op ≡ false
eight_kept (Func key) h = let z = eqb-true (key % 64) 8 h in ap (λ (n : ℕ). eqb n 18) z
eight_kept (Op key) h = cc
eight_kept (Special key) h = cc
eight_kept (Algebra key) h = cc
eight_kept (Cop1 key) h = cc
eight_kept (Cop1I key) h = cc

-- jr: the manual's line of function 9
jr_same : (op : Opcode) (ts : List Token) (i : ℕ) → is_function 8 op ≡ true → encoding_line Release6 Source op ts i ≡ encoding_line Manual Source (Func 9) ts i
unfolding encoding_line
jr_same op ts i h = go (read_operands (encoding_wants Source) ts i).answer
  where
    go : (a : Answer (AskedAll (encoding_wants Source)))
        → line_by a (read_operands (encoding_wants Source) ts i).index (encoding_range Release6 Source op) (encoding_pairs Release6 Source op) (encoding_form Source)
        ≡ line_by a (read_operands (encoding_wants Source) ts i).index (encoding_range Manual Source (Func 9)) (encoding_pairs Manual Source (Func 9)) (encoding_form Source)
    go (Got x) =
        ap₂ (λ (r : Range) (ps : List InstructionPair). line_by (Got x) (read_operands (encoding_wants Source) ts i).index (λ y. r) (λ y. ps) (encoding_form Source))
        (ap (λ (d : Bool). range_then (dropping d) (Ok tt)) (eight_kept op h)) (ap (λ (o : Opcode). encoding_pairs Manual Source o x) (source_by op h))
    go (Missed m) = refl

pub jr_line : (c : Call) (p : ℕ) → TableCall c p → (instruction_at c.descriptors p).encoding ≡ Source → is_function 8 (instruction_at c.descriptors p).opcode ≡ true
    → emit_outcome Release6 c ≡ call_line c (encoding_line Manual Source (Func 9) (tokens c.token_list) (start_of c))
jr_line c p h s f =
    let i = instruction_at c.descriptors p in
    table_outcome Release6 c p h
    ∙ ap (λ (e : Encoding). call_line c (encoding_line Release6 e i.opcode (tokens c.token_list) (start_of c))) s
    ∙ ap (call_line c) (jr_same i.opcode (tokens c.token_list) (start_of c) f)

-- Refusal 27, if neither 19 nor 20 is due.
pub dropped_line : (c : Call) (p : ℕ) → TableCall c p
    → let i = instruction_at c.descriptors p in
    let read = read_operands (encoding_wants i.encoding) (tokens c.token_list) (start_of c) in
    (x : AskedAll (encoding_wants i.encoding)) → read.answer ≡ Got x
    → dropped_or (is_listed27 i.encoding i.opcode x) (encoding_range Manual i.encoding i.opcode x) ≡ Err Dropped
    → emit_outcome Release6 c ≡ refuse c.numbers.counts c.lent read.index (DroppedInstruction (mnemonic_location c.mnemonic))
dropped_line c p h x r d =
    let i = instruction_at c.descriptors p in
    outside_line Release6 c p h x r Dropped (range_as_manual i.encoding i.opcode x ∙ d)

-- ---- "otherwise follows P5": the build is the manual one

range_same : (kind : InstructionLabelKind) (pc dest : ℕ) → in_range Release6 kind pc dest ≡ in_range Manual kind pc dest
unfolding in_range branch_in_range
range_same BranchKind pc dest = refl
range_same JumpKind pc dest = refl
range_same Lower pc dest = refl
range_same Upper pc dest = refl
range_same Full pc dest = refl

pub build_as_manual : (labels : LabelTable) (entry regions pending : List ℕ) → build_outcome Release6 labels entry regions pending ≡ build_outcome Manual labels entry regions pending
build_as_manual labels entry regions pending =
    build_same Release6 Manual labels regions pending
    (λ p dest m e. let q = pending_at pending p in range_same q.kind (pc_of (region_for regions q) q) dest)
    entry

-- ---- such lines: sll $t0,$t1,31 (Func 0), jr $ra (Func 8) and mflo $t0 (Func 18)

pub met_line : emit_outcome Release6 sll31 ≡ emit_outcome Manual sll31
unfolding meaning mnemonic_name first_where all same_bytes places places_from places_f tokens payload_of read_operands read_operand get_register get_constant get_integer signed passed peek step next_adjacent peek_adjacent pseudo_in
met_line = line_as_manual sll31 (refl, λ e. refl)

abbrev jr_ra : Call
jr_ra = line «jr» (descriptor 1 8 2 «jr») (register 31)

abbrev mflo_t0 : Call
mflo_t0 = line «mflo» (descriptor 1 18 3 «mflo») (register 8)

pub met_jr : emit_outcome Release6 jr_ra ≡ call_line jr_ra (encoding_line Manual Source (Func 9) (tokens jr_ra.token_list) (start_of jr_ra))
unfolding list_stop layout_stop meaning mnemonic_name mnemonic_ok one_mnemonic mnemonic_layout fields_ok descriptor_ok descriptor_layout breakpoint_ok filled_layout pending_buffer_layout breakpoint_buffer_layout data_buffer_layout pending_ok payload_ok token_ok token_layout first_where first_later first_bad first_bad_of within_limit all same_bytes places places_from places_f payload_of tokens pseudo_in
met_jr = jr_line jr_ra 0 (record { lists_pass = refl; found = refl }) refl refl

pub met_dropped : emit_outcome Release6 mflo_t0 ≡ refuse mflo_t0.numbers.counts mflo_t0.lent 1 (DroppedInstruction (mnemonic_location mflo_t0.mnemonic))
unfolding list_stop layout_stop meaning mnemonic_name mnemonic_ok one_mnemonic mnemonic_layout fields_ok descriptor_ok descriptor_layout breakpoint_ok filled_layout pending_buffer_layout breakpoint_buffer_layout data_buffer_layout pending_ok payload_ok token_ok token_layout first_where first_later first_bad first_bad_of within_limit all same_bytes places places_from places_f payload_of tokens pseudo_in read_operands read_operand get_register passed peek step
met_dropped = dropped_line mflo_t0 0 (record { lists_pass = refl; found = refl }) (Temporary0, tt, tt) refl refl
