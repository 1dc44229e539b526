-- What an operand holds, for each kind that may be asked for. An operand of another kind holds a zero, or None. Assumes nothing.
use Rattle.std.specs.Prelude.{ℕ, Err, Ok, Result, Option, None, Some}
use Rattle.registers.specs.declared.RegisterSlot.{RegisterSlot}
use Rattle.registers.specs.declared.RegisterSlot.TheVariants.{Zero}
use Rattle.registers.specs.declared.FPRegisterSlot.{FPRegisterSlot}
use Rattle.registers.specs.declared.FPRegisterSlot.TheVariants.{F0}
use Rattle.address_label.specs.declared.AddressLabel.{AddressLabel}
use Rattle.address_label.specs.declared.AddressLabel.TheVariants.{Constant as ConstantLabel}
use Rattle.operand.specs.declared.InstructionValue.{InstructionValue}
use Rattle.operand.specs.declared.InstructionValue.TheVariants.{Slot}
use Rattle.operand.specs.declared.OffsetOrLabel.{OffsetOrLabel}
use Rattle.operand.specs.declared.OffsetOrLabel.TheVariants.{Label as LabelAlone, Offset as Based}
use Rattle.operand.specs.declared.Want.{Want}
use Rattle.operand.specs.declared.Want.TheVariants.{Register as a_register, FPRegister as an_fp_register, Code as a_code, Value as a_value, MaybeValue as maybe_value, Constant as a_constant, Label as a_label, OffsetOrLabel as an_offset, Nothing as nothing}
use Rattle.operand.specs.Answers.{Answer, Got, Missed, Asked}
use Rattle.operand.specs.declared.Operand.{Operand}
use Rattle.operand.specs.declared.Operand.TheVariants.{Register, FPRegister, Code, Value, Constant, Label, Offset, Absent}
use Rattle.operand.specs.declared.Miss.{Miss}

abbrev pub slot_in : Operand → RegisterSlot
slot_in (Register r) = r
slot_in (FPRegister r) = Zero
slot_in (Code n) = Zero
slot_in (Value v) = Zero
slot_in (Constant n) = Zero
slot_in (Label l) = Zero
slot_in (Offset l r) = Zero
slot_in Absent = Zero

abbrev pub fp_slot_in : Operand → FPRegisterSlot
fp_slot_in (Register r) = F0
fp_slot_in (FPRegister r) = r
fp_slot_in (Code n) = F0
fp_slot_in (Value v) = F0
fp_slot_in (Constant n) = F0
fp_slot_in (Label l) = F0
fp_slot_in (Offset l r) = F0
fp_slot_in Absent = F0

abbrev pub code_in : Operand → ℕ
code_in (Register r) = 0
code_in (FPRegister r) = 0
code_in (Code n) = n
code_in (Value v) = 0
code_in (Constant n) = 0
code_in (Label l) = 0
code_in (Offset l r) = 0
code_in Absent = 0

abbrev pub value_in : Operand → InstructionValue
value_in (Register r) = Slot Zero
value_in (FPRegister r) = Slot Zero
value_in (Code n) = Slot Zero
value_in (Value v) = v
value_in (Constant n) = Slot Zero
value_in (Label l) = Slot Zero
value_in (Offset l r) = Slot Zero
value_in Absent = Slot Zero

abbrev pub maybe_value_in : Operand → Option InstructionValue
maybe_value_in (Register r) = None
maybe_value_in (FPRegister r) = None
maybe_value_in (Code n) = None
maybe_value_in (Value v) = Some v
maybe_value_in (Constant n) = None
maybe_value_in (Label l) = None
maybe_value_in (Offset l r) = None
maybe_value_in Absent = None

abbrev pub constant_in : Operand → ℕ
constant_in (Register r) = 0
constant_in (FPRegister r) = 0
constant_in (Code n) = 0
constant_in (Value v) = 0
constant_in (Constant n) = n
constant_in (Label l) = 0
constant_in (Offset l r) = 0
constant_in Absent = 0

abbrev pub label_in : Operand → AddressLabel
label_in (Register r) = ConstantLabel 0
label_in (FPRegister r) = ConstantLabel 0
label_in (Code n) = ConstantLabel 0
label_in (Value v) = ConstantLabel 0
label_in (Constant n) = ConstantLabel 0
label_in (Label l) = l
label_in (Offset l r) = ConstantLabel 0
label_in Absent = ConstantLabel 0

abbrev pub offset_in : Operand → OffsetOrLabel
offset_in (Register r) = LabelAlone (ConstantLabel 0)
offset_in (FPRegister r) = LabelAlone (ConstantLabel 0)
offset_in (Code n) = LabelAlone (ConstantLabel 0)
offset_in (Value v) = LabelAlone (ConstantLabel 0)
offset_in (Constant n) = LabelAlone (ConstantLabel 0)
offset_in (Label l) = LabelAlone l
offset_in (Offset l r) = Based l r
offset_in Absent = LabelAlone (ConstantLabel 0)

-- what an operand holds, by what was asked for
abbrev pub held : (w : Want) → Operand → Asked w
held a_register o = slot_in o
held an_fp_register o = fp_slot_in o
held a_code o = code_in o
held a_value o = value_in o
held maybe_value o = maybe_value_in o
held a_constant o = constant_in o
held a_label o = label_in o
held an_offset o = offset_in o
held nothing o = tt

-- an answer, with its operand taken as what was asked for
abbrev pub held_answer : (w : Want) → Result Operand Miss → Answer (Asked w)
held_answer w (Ok o) = Got (held w o)
held_answer w (Err m) = Missed m
