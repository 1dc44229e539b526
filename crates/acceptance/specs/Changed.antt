-- Which lines a Release 6 job treats in its own way (document 02, P9): "A Release 6 job changes function 8 under the Source encoding to 9, and
-- otherwise follows P5. New numbers: 27, an Inputs line with a third operand or a Func 18 line". Assumes nothing.
use Rattle.std.specs.Prelude.{ℕ, ◌≡◌, Bool, true, false, ◌||◌, Err, Ok}
use Rattle.instructions.specs.declared.Opcode.{Opcode}
use Rattle.instructions.specs.declared.Encoding.{Encoding}
use Rattle.instructions.specs.declared.Encoding.TheVariants.{Register, RegisterShift, Source, Destination, Inputs, Sham, SpecialBranch, Immediate, LoadImmediate, Jump, Branch, BranchZero, Parameterless, Offset, FPOffset, FP3Register, FP2Register, FPMove, FPCond, FPCrossMove, FPBranch}
use Rattle.jobs.specs.Jobs.{is_function}
use Rattle.lexer.specs.Tokens.{tokens}
use Rattle.operand.specs.Answers.{Answer, Got, Missed}
use Rattle.operand_list.specs.OperandLists.{AskedAll, read_operands}
use Rattle.descriptors.specs.Descriptors.{instruction_at}
use Rattle.descriptors.specs.Mnemonics.{mnemonic_name}
use Rattle.emit_pairs.specs.declared.Fault.TheVariants.{Immediate as ImmediateFault, ShiftAmount, ConditionCode, Dropped}
use Rattle.emit_dispatch.specs.Wants.{encoding_wants}
use Rattle.emit_dispatch.specs.Lines.{is_given}
use Rattle.emit_outcome.specs.Call.{Call}
use Rattle.emit_outcome.specs.Checks.{list_stop}
use Rattle.emit_outcome.specs.Dispatch.{meaning}
use Rattle.emit_outcome.specs.Emit.{start_of}
use Rattle.emit_outcome.specs.declared.Meaning.{Meaning}
use Rattle.emit_outcome.specs.declared.Meaning.TheVariants.{Table, Builtin, Neither}
use Rattle.emit_pairs.specs.Pairs.{Range}

-- ---- 27: "an Inputs line with a third operand or a Func 18 line"

abbrev pub third_given : (e : Encoding) → AskedAll (encoding_wants e) → Bool
third_given Register x = false
third_given RegisterShift x = false
third_given Source x = false
third_given Destination x = false
third_given Inputs x = is_given x.2
third_given Sham x = false
third_given SpecialBranch x = false
third_given (Immediate alt) x = false
third_given LoadImmediate x = false
third_given Jump x = false
third_given Branch x = false
third_given BranchZero x = false
third_given Parameterless x = false
third_given Offset x = false
third_given FPOffset x = false
third_given (FP3Register fmt) x = false
third_given (FP2Register fmt) x = false
third_given (FPMove fmt flag) x = false
third_given (FPCond fmt) x = false
third_given (FPCrossMove flag) x = false
third_given (FPBranch flag) x = false

abbrev pub is_listed27 : (e : Encoding) → Opcode → AskedAll (encoding_wants e) → Bool
is_listed27 e op x = third_given e x || is_function 18 op

-- a manual job's range, with 27 "tested straight after 20", and so before 9
abbrev pub dropped_or : (dropped : Bool) → Range → Range
dropped_or dropped (Ok tt) = elim dropped [ true ↦ Err Dropped | false ↦ Ok tt ]
dropped_or dropped (Err ShiftAmount) = Err ShiftAmount
dropped_or dropped (Err ConditionCode) = Err ConditionCode
dropped_or dropped (Err Dropped) = Err Dropped
dropped_or dropped (Err ImmediateFault) = elim dropped [ true ↦ Err Dropped | false ↦ Err ImmediateFault ]

-- ---- a line that a Release 6 job does not change: no 27, and no "function 8 under the Source encoding"

abbrev pub Unchanged : (e : Encoding) → Opcode → AskedAll (encoding_wants e) → Type 0
Unchanged e op x = (is_listed27 e op x ≡ false) × (e ≡ Source → is_function 8 op ≡ false)

-- a line whose operands could not be read is unchanged
abbrev pub UnchangedRead : (e : Encoding) → Opcode → Answer (AskedAll (encoding_wants e)) → Type 0
UnchangedRead e op (Got x) = Unchanged e op x
UnchangedRead e op (Missed m) = Unit {0}

abbrev pub UnchangedMeaning : Call → Meaning → Type 0
UnchangedMeaning c (Table p) =
    let i = instruction_at c.descriptors p in
    UnchangedRead i.encoding i.opcode (read_operands (encoding_wants i.encoding) (tokens c.token_list) (start_of c)).answer
UnchangedMeaning c (Builtin p) = Unit {0}
UnchangedMeaning c Neither = Unit {0}

abbrev pub UnchangedCall : Call → Type 0
UnchangedCall c = UnchangedMeaning c (meaning c.descriptors (mnemonic_name c.mnemonic))

-- ---- a call whose lists have no fault, and whose mnemonic has its descriptor at p

pub record TableCall (c : Call) (p : ℕ) : Type 0 where
  pub lists_pass : list_stop c.token_list c.mnemonic c.descriptors c.lent c.numbers.place.region c.numbers.counts ≡ Ok tt
  pub found : meaning c.descriptors (mnemonic_name c.mnemonic) ≡ Table p
