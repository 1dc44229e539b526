-- Which operand of a line a job by the manual tests, and its range (document 02, P5: "19, a shift amount outside 0 to 31; 20, a condition code
-- outside 0 to 7; both tested on the full 64-bit operand"). Assumes nothing.
use Rattle.std.specs.Prelude.{ℕ, true, false, leb, Err, Option, None, Some}
use Rattle.instructions.specs.declared.Encoding.{Encoding}
use Rattle.instructions.specs.declared.Encoding.TheVariants.{Register, RegisterShift, Source, Destination, Inputs, Sham, SpecialBranch, Immediate, LoadImmediate, Jump, Branch, BranchZero, Parameterless, Offset, FPOffset, FP3Register, FP2Register, FPMove, FPCond, FPCrossMove, FPBranch}
use Rattle.operand_list.specs.OperandLists.{AskedAll}
use Rattle.emit_pairs.specs.declared.Fault.TheVariants.{ShiftAmount, ConditionCode}
use Rattle.emit_dispatch.specs.Wants.{encoding_wants}
use Rattle.emit_pairs.specs.Pairs.{Range}

-- the line's shift amount, if its encoding has one
abbrev pub shift_amount : (e : Encoding) → AskedAll (encoding_wants e) → Option ℕ
shift_amount Register x = None
shift_amount RegisterShift x = None
shift_amount Source x = None
shift_amount Destination x = None
shift_amount Inputs x = None
shift_amount Sham x = Some x.2
shift_amount SpecialBranch x = None
shift_amount (Immediate alt) x = None
shift_amount LoadImmediate x = None
shift_amount Jump x = None
shift_amount Branch x = None
shift_amount BranchZero x = None
shift_amount Parameterless x = None
shift_amount Offset x = None
shift_amount FPOffset x = None
shift_amount (FP3Register fmt) x = None
shift_amount (FP2Register fmt) x = None
shift_amount (FPMove fmt flag) x = None
shift_amount (FPCond fmt) x = None
shift_amount (FPCrossMove flag) x = None
shift_amount (FPBranch flag) x = None

-- the line's condition code, if its encoding has one
abbrev pub condition_code : (e : Encoding) → AskedAll (encoding_wants e) → Option ℕ
condition_code Register x = None
condition_code RegisterShift x = None
condition_code Source x = None
condition_code Destination x = None
condition_code Inputs x = None
condition_code Sham x = None
condition_code SpecialBranch x = None
condition_code (Immediate alt) x = None
condition_code LoadImmediate x = None
condition_code Jump x = None
condition_code Branch x = None
condition_code BranchZero x = None
condition_code Parameterless x = None
condition_code Offset x = None
condition_code FPOffset x = None
condition_code (FP3Register fmt) x = None
condition_code (FP2Register fmt) x = None
condition_code (FPMove fmt flag) x = Some x.2
condition_code (FPCond fmt) x = Some x.0
condition_code (FPCrossMove flag) x = None
condition_code (FPBranch flag) x = Some x.0

-- 19 for a shift amount over 31, else `next`
abbrev pub shift_or : Option ℕ → Range → Range
shift_or None next = next
shift_or (Some amount) next = elim (leb amount 31) [ true ↦ next | false ↦ Err ShiftAmount ]

-- 20 for a condition code over 7, else `next`
abbrev pub code_or : Option ℕ → Range → Range
code_or None next = next
code_or (Some code) next = elim (leb code 7) [ true ↦ next | false ↦ Err ConditionCode ]
