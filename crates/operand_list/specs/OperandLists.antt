-- The operands of a line, read left to right (document 01: "4 to 8 as operands are read left to right"). Assumes nothing.
use Rattle.std.specs.Prelude.{ℕ, List, Err, Ok, Result}
use Rattle.lexer.specs.declared.Token.{Token}
use Rattle.cursor.specs.Cursors.{At}
use Rattle.operand.specs.declared.Want.{Want}
use Rattle.operand.specs.declared.Want.TheVariants.{Register as a_register, FPRegister as an_fp_register, Code as a_code, Value as a_value, MaybeValue as maybe_value, Constant as a_constant, Label as a_label, OffsetOrLabel as an_offset, Nothing as nothing}
use Rattle.operand.specs.Answers.{Answer, Got, Missed, Asked, operand_of, here}
use Rattle.operands.specs.Operands.{get_register, get_fp_register, get_cc, get_value, maybe_get_value, get_constant}
use Rattle.assembler_util.specs.LabelOperands.{get_label, get_offset_or_label}
use Rattle.operand_list.specs.declared.Wants.{Wants}
use Rattle.operand_list.specs.declared.Operands.{Operands}
use Rattle.operand.specs.declared.Miss.{Miss}

-- reads the operand that is asked for, from an index on
unfoldable pub read_operand : (w : Want) → List Token → ℕ → At (Answer (Asked w))
unfolding get_register get_fp_register get_cc get_value maybe_get_value get_constant get_label get_offset_or_label
read_operand a_register ts i = get_register ts i
read_operand an_fp_register ts i = get_fp_register ts i
read_operand a_code ts i = get_cc ts i
read_operand a_value ts i = get_value ts i
read_operand maybe_value ts i = maybe_get_value ts i
read_operand a_constant ts i = get_constant ts i
read_operand a_label ts i = get_label ts i
read_operand an_offset ts i = get_offset_or_label ts i
read_operand nothing ts i = here (Got tt) i

-- the type of what is read for a line's wants
abbrev pub AskedAll : Wants → Type 0
AskedAll w = Asked w.first × Asked w.second × Asked w.third

-- reading goes on after what was read, and ends with the first miss
abbrev pub then_read : {A B : Type 0} → Answer A → ℕ → (A → ℕ → At (Answer B)) → At (Answer B)
then_read (Got a) i next = next a i
then_read (Missed m) i next = here (Missed m) i

module _ (w : Wants) (ts : List Token) where
  abbrev pub third_from : Asked w.first → Asked w.second → ℕ → At (Answer (AskedAll w))
  third_from a b i = then_read (read_operand w.third ts i).answer (read_operand w.third ts i).index (λ c j. here (Got (a, b, c)) j)

  abbrev pub second_from : Asked w.first → ℕ → At (Answer (AskedAll w))
  second_from a i = then_read (read_operand w.second ts i).answer (read_operand w.second ts i).index (third_from a)

  unfoldable pub read_operands : ℕ → At (Answer (AskedAll w))
  unfolding read_operand
  read_operands i = then_read (read_operand w.first ts i).answer (read_operand w.first ts i).index second_from

-- what was read, as operands
abbrev pub operands_of : (w : Wants) → AskedAll w → Operands
operands_of w x = record { first = operand_of w.first x.0; second = operand_of w.second x.1; third = operand_of w.third x.2 }

abbrev pub operands_answer : (w : Wants) → Answer (AskedAll w) → Result Operands Miss
operands_answer w (Got x) = Ok (operands_of w x)
operands_answer w (Missed m) = Err m

abbrev pub given_all : (w : Wants) → At (Answer (AskedAll w)) → At (Result Operands Miss)
given_all w x = here (operands_answer w x.answer) x.index
