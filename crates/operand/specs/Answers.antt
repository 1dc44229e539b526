-- What is asked for at a place of a line, and what reading it gives. Assumes nothing.
use Rattle.std.specs.Prelude.{ℕ, Err, Ok, Result, Option, None, Some}
use Rattle.registers.specs.declared.RegisterSlot.{RegisterSlot}
use Rattle.registers.specs.declared.FPRegisterSlot.{FPRegisterSlot}
use Rattle.address_label.specs.declared.AddressLabel.{AddressLabel}
use Rattle.cursor.specs.Cursors.{At}
use Rattle.operand.specs.declared.Miss.{Miss}
use Rattle.operand.specs.declared.InstructionValue.{InstructionValue}
use Rattle.operand.specs.declared.OffsetOrLabel.{OffsetOrLabel}
use Rattle.operand.specs.declared.OffsetOrLabel.TheVariants.{Label as LabelAlone, Offset as Based}
use Rattle.operand.specs.declared.Want.{Want}
use Rattle.operand.specs.declared.Want.TheVariants.{Register as a_register, FPRegister as an_fp_register, Code as a_code, Value as a_value, MaybeValue as maybe_value, Constant as a_constant, Label as a_label, OffsetOrLabel as an_offset, Nothing as nothing}
use Rattle.operand.specs.declared.Operand.{Operand}
use Rattle.operand.specs.declared.Operand.TheVariants.{Register, FPRegister, Code, Value, Constant, Label, Offset, Absent}

-- what was read, or why nothing was
pub data Answer (A : Type 0) : Type 0 where
  Got : A → Answer A
  Missed : Miss → Answer A

-- the type of what is read for each want
abbrev pub Asked : Want → Type 0
Asked a_register = RegisterSlot
Asked an_fp_register = FPRegisterSlot
Asked a_code = ℕ
Asked a_value = InstructionValue
Asked maybe_value = Option InstructionValue
Asked a_constant = ℕ
Asked a_label = AddressLabel
Asked an_offset = OffsetOrLabel
Asked nothing = Unit {0}

-- what was read, as an operand
abbrev pub operand_of : (w : Want) → Asked w → Operand
operand_of a_register r = Register r
operand_of an_fp_register r = FPRegister r
operand_of a_code n = Code n
operand_of a_value v = Value v
operand_of maybe_value (Some v) = Value v
operand_of maybe_value None = Absent
operand_of a_constant n = Constant n
operand_of a_label l = Label l
operand_of an_offset (LabelAlone l) = Label l
operand_of an_offset (Based l r) = Offset l r
operand_of nothing u = Absent

abbrev pub answer_of : (w : Want) → Answer (Asked w) → Result Operand Miss
answer_of w (Got x) = Ok (operand_of w x)
answer_of w (Missed m) = Err m

-- an answer at an index
abbrev pub here : {A : Type 0} → A → ℕ → At A
here x i = record { answer = x; index = i }

-- an answer as the code returns it: as a `Result`
abbrev pub given : (w : Want) → At (Answer (Asked w)) → At (Result Operand Miss)
given w x = here (answer_of w x.answer) x.index
