-- Refusals 19 and 20 in a job by the manual: they are due exactly by the shift amount and the condition code. Otherwise the commit's range decides.
-- Assumes nothing.
use Rattle.std.specs.Prelude.{ℕ, ◌<◌, ◌≡◌, refl, Bool, true, false, leb, ◌++◌, Err, Ok, Option, None, Some}
use Rattle.std.proofs.Common.{ap, ◌∙◌, arith}
use Rattle.std.proofs.lemmas.Bool.{lt-leb}
use Rattle.instructions.specs.declared.Opcode.{Opcode}
use Rattle.instructions.specs.declared.Encoding.{Encoding}
use Rattle.instructions.specs.declared.Encoding.TheVariants.{Register, RegisterShift, Source, Destination, Inputs, Sham, SpecialBranch, Immediate, LoadImmediate, Jump, Branch, BranchZero, Parameterless, Offset, FPOffset, FP3Register, FP2Register, FPMove, FPCond, FPCrossMove, FPBranch}
use Rattle.jobs.specs.declared.Job.TheVariants.{Commit, Manual}
use Rattle.refusal.specs.declared.Refusal.TheVariants.{ShiftOutOfRange, CodeOutOfRange}
use Rattle.lexer.specs.Tokens.{tokens}
use Rattle.operand.specs.Answers.{Got}
use Rattle.operand_list.specs.OperandLists.{AskedAll, read_operands}
use Rattle.descriptors.specs.Descriptors.{instruction_at}
use Rattle.descriptors.specs.Mnemonics.{mnemonic_location}
use Rattle.emit_pairs.specs.declared.Fault.{Fault}
use Rattle.emit_pairs.specs.declared.Fault.TheVariants.{ShiftAmount, ConditionCode}
use Rattle.emit_pairs.specs.Pairs.{Range}
use Rattle.emit_dispatch.specs.Wants.{encoding_wants}
use Rattle.emit_dispatch.specs.Lines.{within_or, range_then, constant_range, encoding_range}
use Rattle.emit_outcome.specs.Call.{Call}
use Rattle.emit_outcome.specs.Emit.{start_of, refuse, emit_outcome}
use Rattle.emit_outcome.specs.Checks.{list_stop, layout_stop}
use Rattle.emit_outcome.specs.Dispatch.{meaning}
use Rattle.descriptors.specs.Mnemonics.{mnemonic_name, mnemonic_ok, one_mnemonic, mnemonic_layout}
use Rattle.descriptors.specs.Descriptors.{fields_ok, descriptor_ok, descriptor_layout}
use Rattle.breakpoints.specs.Breakpoints.{breakpoint_ok, filled_layout, pending_buffer_layout, breakpoint_buffer_layout, data_buffer_layout}
use Rattle.pending.specs.Pendings.{pending_ok}
use Rattle.lexer.specs.Tokens.{payload_ok, token_ok, token_layout, payload_of}
use Rattle.names.specs.Names.{first_where, first_later}
use Rattle.record.specs.Records.{first_bad, first_bad_of, within_limit, places, places_from, places_f}
use Rattle.record.specs.Bytes.{all, same_bytes}
use Rattle.pseudo_names.specs.PseudoNames.{pseudo_in}
use Rattle.operand_list.specs.OperandLists.{read_operand}
use Rattle.operands.specs.Operands.{get_register, get_fp_register, get_cc}
use Rattle.cursor.specs.Cursors.{passed, peek, step}
use Rattle.registers.specs.declared.RegisterSlot.TheVariants.{Temporary0, Temporary1}
use Rattle.registers.specs.declared.FPRegisterSlot.TheVariants.{F2, F4}
use Rattle.example_lists.specs.Lists.{register, fp_register, integer, comma, «sll», cvt_sw, descriptor, float_descriptor, line}
use Rattle.acceptance.specs.Changed.{TableCall}
use Rattle.acceptance.proofs.AsManual.{outside_line}
use Rattle.acceptance.specs.Tested.{shift_amount, condition_code, shift_or, code_or}

-- A single test passes, or it gives its fault.
tested : (fault : Fault) (b : Bool) → range_then (within_or fault b) (Ok tt) ≡ (elim b [ true ↦ Ok tt | false ↦ Err fault ])
tested fault true = refl
tested fault false = refl

pub range_as_commit : (e : Encoding) (op : Opcode) (x : AskedAll (encoding_wants e))
    → encoding_range Manual e op x ≡ shift_or (shift_amount e x) (code_or (condition_code e x) (encoding_range Commit e op x))
range_as_commit Register op x = refl
range_as_commit RegisterShift op x = refl
range_as_commit Source op x = refl
range_as_commit Destination op x = refl
range_as_commit Inputs op x = refl
range_as_commit Sham op x = tested ShiftAmount (leb x.2 31)
range_as_commit SpecialBranch op x = refl
range_as_commit (Immediate alt) op x = refl
range_as_commit LoadImmediate op x = refl
range_as_commit Jump op x = refl
range_as_commit Branch op x = refl
range_as_commit BranchZero op x = refl
range_as_commit Parameterless op x = refl
range_as_commit Offset op x = refl
range_as_commit FPOffset op x = refl
range_as_commit (FP3Register fmt) op x = refl
range_as_commit (FP2Register fmt) op x = refl
range_as_commit (FPMove fmt flag) op x = tested ConditionCode (leb x.2 7)
range_as_commit (FPCond fmt) op x = tested ConditionCode (leb x.0 7)
range_as_commit (FPCrossMove flag) op x = refl
range_as_commit (FPBranch flag) op x = tested ConditionCode (leb x.0 7)

-- The commit's range tests an immediate's constant alone. So where a line has no shift amount and no condition code, nothing of 19 and 20 is due.
pub commit_range : (e : Encoding) (op : Opcode) (x : AskedAll (encoding_wants e)) → encoding_range Commit e op x ≡ constant_range e x
commit_range Register op x = refl
commit_range RegisterShift op x = refl
commit_range Source op x = refl
commit_range Destination op x = refl
commit_range Inputs op x = refl
commit_range Sham op x = refl
commit_range SpecialBranch op x = refl
commit_range (Immediate alt) op x = refl
commit_range LoadImmediate op x = refl
commit_range Jump op x = refl
commit_range Branch op x = refl
commit_range BranchZero op x = refl
commit_range Parameterless op x = refl
commit_range Offset op x = refl
commit_range FPOffset op x = refl
commit_range (FP3Register fmt) op x = refl
commit_range (FP2Register fmt) op x = refl
commit_range (FPMove fmt flag) op x = refl
commit_range (FPCond fmt) op x = refl
commit_range (FPCrossMove flag) op x = refl
commit_range (FPBranch flag) op x = refl

over_shift : (amount : ℕ) (next : Range) → 31 < amount → shift_or (Some amount) next ≡ Err ShiftAmount
over_shift amount next h = ap (λ (b : Bool). elim b [ true ↦ next | false ↦ Err ShiftAmount ]) (lt-leb amount 31 h)

over_code : (code : ℕ) (next : Range) → 7 < code → code_or (Some code) next ≡ Err ConditionCode
over_code code next h = ap (λ (b : Bool). elim b [ true ↦ next | false ↦ Err ConditionCode ]) (lt-leb code 7 h)

-- ---- the line's whole outcome

module _ (c : Call) (p : ℕ) (t : TableCall c p) where
  abbrev e : Encoding
  e = (instruction_at c.descriptors p).encoding

  abbrev op : Opcode
  op = (instruction_at c.descriptors p).opcode

  abbrev position : ℕ
  position = (read_operands (encoding_wants e) (tokens c.token_list) (start_of c)).index

  module _ (x : AskedAll (encoding_wants e)) (read : (read_operands (encoding_wants e) (tokens c.token_list) (start_of c)).answer ≡ Got x) where
    pub shift_line : (amount : ℕ) → shift_amount e x ≡ Some amount → 31 < amount
        → emit_outcome Manual c ≡ refuse c.numbers.counts c.lent position (ShiftOutOfRange (mnemonic_location c.mnemonic))
    shift_line amount a h =
        let next = code_or (condition_code e x) (encoding_range Commit e op x) in
        outside_line Manual c p t x read ShiftAmount (range_as_commit e op x ∙ ap (λ (o : Option ℕ). shift_or o next) a ∙ over_shift amount next h)

    pub code_line : (code : ℕ) → shift_amount e x ≡ None → condition_code e x ≡ Some code → 7 < code
        → emit_outcome Manual c ≡ refuse c.numbers.counts c.lent position (CodeOutOfRange (mnemonic_location c.mnemonic))
    code_line code n a h =
        let next = encoding_range Commit e op x in
        outside_line Manual c p t x read ConditionCode
        (range_as_commit e op x ∙ ap (λ (o : Option ℕ). shift_or o (code_or (condition_code e x) next)) n ∙ ap (λ (o : Option ℕ). code_or o next) a ∙ over_code code next h)

-- ---- such lines: sll $t0,$t1,32 (Func 0), and a line under FPCond with code 8 (Cop1 50)

abbrev sll32 : Call
sll32 = line «sll» (descriptor 1 0 5 «sll») (register 8 ++ comma ++ register 9 ++ comma ++ integer 32)

pub met_shift : emit_outcome Manual sll32 ≡ refuse sll32.numbers.counts sll32.lent 5 (ShiftOutOfRange (mnemonic_location sll32.mnemonic))
unfolding list_stop layout_stop meaning mnemonic_name mnemonic_ok one_mnemonic mnemonic_layout fields_ok descriptor_ok descriptor_layout breakpoint_ok filled_layout pending_buffer_layout breakpoint_buffer_layout data_buffer_layout pending_ok payload_ok token_ok token_layout first_where first_later first_bad first_bad_of within_limit all same_bytes places places_from places_f payload_of tokens pseudo_in read_operands read_operand get_register passed peek step
met_shift = shift_line sll32 0 (record { lists_pass = refl; found = refl }) (Temporary0, Temporary1, 32) refl 32 refl (omega arith)

abbrev cond8 : Call
cond8 = line cvt_sw (float_descriptor 4 50 18 0 0 cvt_sw) (integer 8 ++ comma ++ fp_register 2 ++ comma ++ fp_register 4)

pub met_code : emit_outcome Manual cond8 ≡ refuse cond8.numbers.counts cond8.lent 5 (CodeOutOfRange (mnemonic_location cond8.mnemonic))
unfolding list_stop layout_stop meaning mnemonic_name mnemonic_ok one_mnemonic mnemonic_layout fields_ok descriptor_ok descriptor_layout breakpoint_ok filled_layout pending_buffer_layout breakpoint_buffer_layout data_buffer_layout pending_ok payload_ok token_ok token_layout first_where first_later first_bad first_bad_of within_limit all same_bytes places places_from places_f payload_of tokens pseudo_in read_operands read_operand get_register passed peek step get_fp_register get_cc
met_code = code_line cond8 0 (record { lists_pass = refl; found = refl }) (8, F2, F4) refl 8 refl refl (omega arith)
