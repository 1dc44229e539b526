-- A line: its operands are read, and its encoding or pseudo-instruction makes words from them. The types let words take only the operands that
-- `Wants` asks for. Assumes nothing.
use Rattle.std.specs.Prelude.{ℕ, List, [], Bool, true, false, Err, Ok, Option, None, Some}
use Rattle.registers.specs.Numbers.{register_number, fp_register_number}
use Rattle.instructions.specs.declared.Opcode.{Opcode}
use Rattle.instructions.specs.declared.Opcode.TheVariants.{Op, Func}
use Rattle.instructions.specs.declared.Encoding.{Encoding}
use Rattle.instructions.specs.declared.Encoding.TheVariants.{Register, RegisterShift, Source, Destination, Inputs, Sham, SpecialBranch, Immediate, LoadImmediate, Jump, Branch, BranchZero, Parameterless, Offset, FPOffset, FP3Register, FP2Register, FPMove, FPCond, FPCrossMove, FPBranch}
use Rattle.pseudo_names.specs.declared.Pseudo.{Pseudo}
use Rattle.pseudo_names.specs.declared.Pseudo.TheVariants.{Nop, Abs, BranchCustom, SetCustom, Beqz, Bnez, Seq, Sne, Neg, Negu, Not, Li, La, Move, B, Subi, Subiu}
use Rattle.jobs.specs.declared.Job.{Job}
use Rattle.jobs.specs.Jobs.{format_of, shift_within, code_within, source_opcode, is_dropped}
use Rattle.lexer.specs.declared.Token.{Token}
use Rattle.operand.specs.declared.InstructionValue.{InstructionValue}
use Rattle.operand.specs.Answers.{Answer, Got, Missed}
use Rattle.operand_list.specs.OperandLists.{AskedAll, read_operands}
use Rattle.emit_pairs.specs.declared.InstructionPair.{InstructionPair}
use Rattle.emit_pairs.specs.declared.Fault.{Fault}
use Rattle.emit_pairs.specs.declared.Fault.TheVariants.{ShiftAmount, ConditionCode, Dropped}
use Rattle.loading.specs.declared.LoadForm.{LoadForm}
use Rattle.loading.specs.declared.LoadForm.TheVariants.{Nothing as Unloaded}
use Rattle.emit_pairs.specs.Pairs.{immediate_range, Range}
use Rattle.emit_integer.specs.IntegerWords.{register_pairs, register_shift_pairs, source_pairs, destination_pairs, inputs_pairs, sham_pairs, branch_zero_pairs, immediate_line_pairs, load_immediate_pairs, jump_pairs, branch_pairs, parameterless_pairs, offset_line_pairs}
use Rattle.emit_float.specs.FloatWords.{fp3_pairs, fp2_pairs, fp_move_pairs, fp_cond_pairs, fp_cross_move_pairs, fp_branch_pairs}
use Rattle.emit_pseudo.specs.PseudoWords.{branch_custom_pairs, set_custom_pairs, sne_pairs, seq_pairs, abs_pairs, neg_pairs, move_pairs, li_pairs, la_pairs, b_pairs, nop_pairs, subi_pairs}
use Rattle.emit_dispatch.specs.Wants.{encoding_wants, pseudo_wants}
use Rattle.emit_dispatch.specs.LineLoads.{form_from, encoding_loads, pseudo_loads}
use Rattle.emit_dispatch.specs.LineAnswers.{LineAnswer, Made, Missed as MissedOperand, OutOfRange}

-- ---- words: x.0, x.1 and x.2 are the operands, left to right

abbrev pub encoding_pairs : Job → (e : Encoding) → Opcode → AskedAll (encoding_wants e) → List InstructionPair
encoding_pairs job Register op x = register_pairs op x.0 x.1 x.2
encoding_pairs job RegisterShift op x = register_shift_pairs op x.0 x.1 x.2
encoding_pairs job Source op x = source_pairs (source_opcode job op) x.0
encoding_pairs job Destination op x = destination_pairs op x.0
encoding_pairs job Inputs op x = inputs_pairs op x.0 x.1 x.2
encoding_pairs job Sham op x = sham_pairs op x.0 x.1 x.2
encoding_pairs job SpecialBranch op x = branch_zero_pairs op x.0 x.1
encoding_pairs job (Immediate alt) op x = immediate_line_pairs op alt x.0 x.1 x.2
encoding_pairs job LoadImmediate op x = load_immediate_pairs op x.0 x.1
encoding_pairs job Jump op x = jump_pairs op x.0
encoding_pairs job Branch op x = branch_pairs op x.0 x.1 x.2
encoding_pairs job BranchZero op x = branch_zero_pairs op x.0 x.1
encoding_pairs job Parameterless op x = parameterless_pairs op
encoding_pairs job Offset op x = offset_line_pairs op (register_number x.0) x.1
encoding_pairs job FPOffset op x = offset_line_pairs op (fp_register_number x.0) x.1
encoding_pairs job (FP3Register fmt) op x = fp3_pairs op (format_of job fmt) x.0 x.1 x.2
encoding_pairs job (FP2Register fmt) op x = fp2_pairs op (format_of job fmt) x.0 x.1
encoding_pairs job (FPMove fmt flag) op x = fp_move_pairs op (format_of job fmt) flag x.0 x.1 x.2
encoding_pairs job (FPCond fmt) op x = fp_cond_pairs op (format_of job fmt) x.0 x.1 x.2
encoding_pairs job (FPCrossMove true) op x = fp_cross_move_pairs op (fp_register_number x.0) (register_number x.1)
encoding_pairs job (FPCrossMove false) op x = fp_cross_move_pairs op (register_number x.0) (fp_register_number x.1)
encoding_pairs job (FPBranch flag) op x = fp_branch_pairs op flag x.0 x.1

abbrev pub pseudo_pairs : Job → (p : Pseudo) → AskedAll (pseudo_wants p) → List InstructionPair
pseudo_pairs job Nop x = nop_pairs
pseudo_pairs job Abs x = abs_pairs job x.0 x.1
pseudo_pairs job (BranchCustom greater result unsigned) x = branch_custom_pairs greater result unsigned x.0 x.1 x.2
pseudo_pairs job (SetCustom greater result unsigned) x = set_custom_pairs greater result unsigned x.0 x.1 x.2
pseudo_pairs job Beqz x = branch_zero_pairs (Op 4) x.0 x.1
pseudo_pairs job Bnez x = branch_zero_pairs (Op 5) x.0 x.1
pseudo_pairs job Seq x = seq_pairs x.0 x.1 x.2
pseudo_pairs job Sne x = sne_pairs x.0 x.1 x.2
pseudo_pairs job Neg x = neg_pairs (Func 34) x.0 x.1
pseudo_pairs job Negu x = neg_pairs (Func 35) x.0 x.1
pseudo_pairs job Not x = move_pairs (Func 39) x.0 x.1
pseudo_pairs job Li x = li_pairs x.0 x.1
pseudo_pairs job La x = la_pairs x.0 x.1
pseudo_pairs job Move x = move_pairs (Func 33) x.0 x.1
pseudo_pairs job B x = b_pairs x.0
pseudo_pairs job Subi x = subi_pairs (Op 8) (Func 32) x.0 x.1 x.2
pseudo_pairs job Subiu x = subi_pairs (Op 9) (Func 33) x.0 x.1 x.2

-- ---- what a job takes: "9. An immediate without alternative lies outside -32,768 to 32,767"; document 02, P5: "19, a shift amount outside 0 to
-- 31; 20, a condition code outside 0 to 7 .. tested .. after the line's last operand is read, before 9"; P9: "27 .. tested straight after 20"

abbrev pub within_or : Fault → Bool → Range
within_or fault b = elim b [ true ↦ Ok tt | false ↦ Err fault ]

-- the first fault decides
abbrev pub range_then : Range → Range → Range
range_then (Ok tt) next = next
range_then (Err fault) next = Err fault

-- 19, where the encoding has a shift amount, or 20, where it has a condition code
abbrev pub amount_range : Job → (e : Encoding) → AskedAll (encoding_wants e) → Range
amount_range job Sham x = within_or ShiftAmount (shift_within job x.2)
amount_range job (FPMove fmt flag) x = within_or ConditionCode (code_within job x.2)
amount_range job (FPCond fmt) x = within_or ConditionCode (code_within job x.0)
amount_range job (FPBranch flag) x = within_or ConditionCode (code_within job x.0)
amount_range job e x = Ok tt

-- whether the optional operand of Inputs was read
abbrev pub is_given : Option InstructionValue → Bool
is_given None = false
is_given (Some value) = true

-- whether a third operand was given where it is optional: only under Inputs
abbrev pub third_given : (e : Encoding) → AskedAll (encoding_wants e) → Bool
third_given Inputs x = is_given x.2
third_given e x = false

-- 27: a Release 6 job drops some instructions
abbrev pub kept_range : Job → (third : Bool) → Opcode → Range
kept_range job third op = elim (is_dropped job third op) [ true ↦ Err Dropped | false ↦ Ok tt ]

-- 9, where the encoding has an immediate
abbrev pub constant_range : (e : Encoding) → AskedAll (encoding_wants e) → Range
constant_range (Immediate alt) x = immediate_range alt x.2
constant_range e x = Ok tt

-- 19 or 20, then 27, then 9
abbrev pub encoding_range : Job → (e : Encoding) → Opcode → AskedAll (encoding_wants e) → Range
encoding_range job e op x = range_then (amount_range job e x) (range_then (kept_range job (third_given e x) op) (constant_range e x))

-- ---- how the line's constant is loaded (document 02, P2: "All emitters that take a literal pass the report up, or none where nothing is
-- loaded")

abbrev pub encoding_form : (e : Encoding) → AskedAll (encoding_wants e) → LoadForm
encoding_form e x = form_from (encoding_loads e x)

abbrev pub pseudo_form : (p : Pseudo) → AskedAll (pseudo_wants p) → LoadForm
pseudo_form p x = form_from (pseudo_loads p x)

-- ---- the line

-- the answer, the words with their labels, how its constant is loaded, and the index after the operands
pub record Line : Type 0 where
  pub answer : LineAnswer
  pub pairs : List InstructionPair
  pub form : LoadForm
  pub index : ℕ

abbrev pub range_answer : Range → LineAnswer
range_answer (Ok tt) = Made
range_answer (Err fault) = OutOfRange fault

-- operands that were read make the words; if one was missed, there are no words
abbrev pub line_by : {A : Type 0} → Answer A → ℕ → (A → Range) → (A → List InstructionPair) → (A → LoadForm) → Line
line_by (Got x) i range pairs form = record { answer = range_answer (range x); pairs = pairs x; form = form x; index = i }
line_by (Missed m) i range pairs form = record { answer = MissedOperand m; pairs = []; form = Unloaded; index = i }

-- the line of an instruction in the table
unfoldable pub encoding_line : Job → Encoding → Opcode → List Token → ℕ → Line
unfolding read_operands
encoding_line job e op ts i =
    let read = read_operands (encoding_wants e) ts i in
    line_by read.answer read.index (encoding_range job e op) (encoding_pairs job e op) (encoding_form e)

-- the line of a pseudo-instruction: no range is checked, since each immediate that it takes has an alternative
unfoldable pub pseudo_line : Job → Pseudo → List Token → ℕ → Line
unfolding read_operands
pseudo_line job p ts i =
    let read = read_operands (pseudo_wants p) ts i in
    line_by read.answer read.index (λ x. (Ok tt)) (pseudo_pairs job p) (pseudo_form p)
