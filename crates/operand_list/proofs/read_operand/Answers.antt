-- Each arm gives its reader's answer; if nothing is asked for, nothing is read.
use Rattle.std.specs.Prelude.{refl}
use Rattle.operand_list.specs.OperandLists.{read_operand}
use Rattle.operand_list.proofs.read_operand.Goals as goal

pub returns-in-Register : goal.returns-in-Register
unfolding read_operand
returns-in-Register c = rw c.in-Register.is c.get_register.ensures

pub returns-in-FPRegister : goal.returns-in-FPRegister
unfolding read_operand
returns-in-FPRegister c = rw c.in-FPRegister.is c.get_fp_register.ensures

pub returns-in-Code : goal.returns-in-Code
unfolding read_operand
returns-in-Code c = rw c.in-Code.is c.get_cc.ensures

pub returns-in-Value : goal.returns-in-Value
unfolding read_operand
returns-in-Value c = rw c.in-Value.is c.get_value.ensures

pub returns-in-MaybeValue : goal.returns-in-MaybeValue
unfolding read_operand
returns-in-MaybeValue c = rw c.in-MaybeValue.is c.maybe_get_value.ensures

pub returns-in-Constant : goal.returns-in-Constant
unfolding read_operand
returns-in-Constant c = rw c.in-Constant.is c.get_constant.ensures

pub returns-in-Label : goal.returns-in-Label
unfolding read_operand
returns-in-Label c = rw c.in-Label.is c.get_label.ensures

pub returns-in-OffsetOrLabel : goal.returns-in-OffsetOrLabel
unfolding read_operand
returns-in-OffsetOrLabel c = rw c.in-OffsetOrLabel.is c.get_offset_or_label.ensures

pub returns-in-Nothing : goal.returns-in-Nothing
unfolding read_operand
returns-in-Nothing c = rw c.in-Nothing.is (record { answer_is = refl; after_is = refl })
