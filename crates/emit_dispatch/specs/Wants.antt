-- What each encoding and each pseudo-instruction asks for, left to right, in one table (emit.rs, the top of each `do_..._instruction`).
-- Assumes nothing.
use Rattle.std.specs.Prelude.{true, false}
use Rattle.instructions.specs.declared.Encoding.{Encoding}
use Rattle.instructions.specs.declared.Encoding.TheVariants.{Register, RegisterShift, Source, Destination, Inputs, Sham, SpecialBranch, Immediate, LoadImmediate, Jump, Branch, BranchZero, Parameterless, Offset, FPOffset, FP3Register, FP2Register, FPMove, FPCond, FPCrossMove, FPBranch}
use Rattle.pseudo_names.specs.declared.Pseudo.{Pseudo}
use Rattle.pseudo_names.specs.declared.Pseudo.TheVariants.{Nop, Abs, BranchCustom, SetCustom, Beqz, Bnez, Seq, Sne, Neg, Negu, Not, Li, La, Move, B, Subi, Subiu}
use Rattle.operand.specs.declared.Want.{Want}
use Rattle.operand.specs.declared.Want.TheVariants.{Register as a_register, FPRegister as an_fp_register, Code as a_code, Value as a_value, MaybeValue as maybe_value, Constant as a_constant, Label as a_label, OffsetOrLabel as an_offset, Nothing as nothing}
use Rattle.operand_list.specs.declared.Wants.{Wants}

abbrev pub three : Want → Want → Want → Wants
three a b c = record { first = a; second = b; third = c }

abbrev pub encoding_wants : Encoding → Wants
encoding_wants Register = three a_register a_register a_value
encoding_wants RegisterShift = three a_register a_register a_register
encoding_wants Source = three a_register nothing nothing
encoding_wants Destination = three a_register nothing nothing
encoding_wants Inputs = three a_register a_register maybe_value
encoding_wants Sham = three a_register a_register a_constant
encoding_wants SpecialBranch = three a_register a_label nothing
encoding_wants (Immediate alt) = three a_register a_register a_constant
encoding_wants LoadImmediate = three a_register a_constant nothing
encoding_wants Jump = three a_label nothing nothing
encoding_wants Branch = three a_register a_value a_label
encoding_wants BranchZero = three a_register a_label nothing
encoding_wants Parameterless = three nothing nothing nothing
encoding_wants Offset = three a_register an_offset nothing
encoding_wants FPOffset = three an_fp_register an_offset nothing
encoding_wants (FP3Register fmt) = three an_fp_register an_fp_register an_fp_register
encoding_wants (FP2Register fmt) = three an_fp_register an_fp_register nothing
encoding_wants (FPMove fmt flag) = three an_fp_register an_fp_register a_code
encoding_wants (FPCond fmt) = three a_code an_fp_register an_fp_register
encoding_wants (FPCrossMove true) = three an_fp_register a_register nothing
encoding_wants (FPCrossMove false) = three a_register an_fp_register nothing
encoding_wants (FPBranch flag) = three a_code a_label nothing

abbrev pub pseudo_wants : Pseudo → Wants
pseudo_wants Nop = three nothing nothing nothing
pseudo_wants Abs = three a_register a_register nothing
pseudo_wants (BranchCustom greater result unsigned) = three a_register a_value a_label
pseudo_wants (SetCustom greater result unsigned) = three a_register a_register a_value
pseudo_wants Beqz = three a_register a_label nothing
pseudo_wants Bnez = three a_register a_label nothing
pseudo_wants Seq = three a_register a_register a_value
pseudo_wants Sne = three a_register a_register a_value
pseudo_wants Neg = three a_register a_register nothing
pseudo_wants Negu = three a_register a_register nothing
pseudo_wants Not = three a_register a_register nothing
pseudo_wants Li = three a_register a_constant nothing
pseudo_wants La = three a_register a_label nothing
pseudo_wants Move = three a_register a_register nothing
pseudo_wants B = three a_label nothing nothing
pseudo_wants Subi = three a_register a_register a_constant
pseudo_wants Subiu = three a_register a_register a_constant
