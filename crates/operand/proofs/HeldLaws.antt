-- Laws of what an operand holds: if a kind of operand is asked for, it holds what was read. Assumes nothing.
use Rattle.std.specs.Prelude.{◌≡◌, refl, Result, None, Some}
use Rattle.std.proofs.Common.{sym, ap, ◌∙◌}
use Rattle.operand.specs.declared.OffsetOrLabel.TheVariants.{Label as LabelAlone, Offset as Based}
use Rattle.operand.specs.declared.Want.{Want}
use Rattle.operand.specs.declared.Want.TheVariants.{Register as a_register, FPRegister as an_fp_register, Code as a_code, Value as a_value, MaybeValue as maybe_value, Constant as a_constant, Label as a_label, OffsetOrLabel as an_offset, Nothing as nothing}
use Rattle.operand.specs.Answers.{Answer, Got, Missed, Asked, operand_of, answer_of}
use Rattle.operand.specs.Held.{held, held_answer}
use Rattle.operand.specs.declared.Miss.{Miss}
use Rattle.operand.specs.declared.Operand.{Operand}

-- An operand holds the value that was read, not a zero in its place.
pub held_given : (w : Want) (x : Asked w) → held w (operand_of w x) ≡ x
held_given a_register r = refl
held_given an_fp_register r = refl
held_given a_code n = refl
held_given a_value v = refl
held_given maybe_value (Some v) = refl
held_given maybe_value None = refl
held_given a_constant n = refl
held_given a_label l = refl
held_given an_offset (LabelAlone l) = refl
held_given an_offset (Based l r) = refl
held_given nothing u = refl

pub answer_given : (w : Want) (a : Answer (Asked w)) → held_answer w (answer_of w a) ≡ a
answer_given w (Got x) = ap Got (held_given w x)
answer_given w (Missed m) = refl

-- A reader's answer follows from its operand or its miss.
pub answer_held : (w : Want) {given : (Result Operand Miss)} {a : Answer (Asked w)} → given ≡ answer_of w a → a ≡ held_answer w given
answer_held w {given} {a} e = sym (answer_given w a) ∙ ap (held_answer w) (sym e)
