-- The operand readers (assembler_util.rs) on a decoded token list and an index (document 01, 'Tokens'). Assumes nothing.
use Rattle.std.specs.Prelude.{ℕ, ◌-◌, ◌%◌, ◌^◌, Bool, true, false, List, ◌==◌, Err, None, Ok, Option, Result, Some}
use Rattle.registers.specs.declared.RegisterSlot.{RegisterSlot}
use Rattle.registers.specs.declared.FPRegisterSlot.{FPRegisterSlot}
use Rattle.lexer.specs.declared.Token.{Token}
use Rattle.lexer.specs.Tokens.{strip}
use Rattle.cursor.specs.Cursors.{At, next_adjacent, peek_adjacent}
use Rattle.operand.specs.declared.Miss.{Miss}
use Rattle.operand.specs.declared.Miss.TheVariants.{EndOfFile, ExpectedRegister, ExpectedConstant}
use Rattle.operand.specs.declared.InstructionValue.{InstructionValue}
use Rattle.operand.specs.declared.InstructionValue.TheVariants.{Slot, Literal}
use Rattle.operand.specs.Answers.{Answer, Got, Missed, here}
use Rattle.lexer.specs.Views.{as_register, as_fp_register, as_integer}

-- whether the token's kind has that number
abbrev pub is_kind : ℕ → Token → Bool
is_kind n t = strip t.kind == n

-- "4. The tokens end before an operand does."
abbrev pub token_due : Option Token → Result Token Miss
token_due None = Err EndOfFile
token_due (Some t) = Ok t

unfoldable pub get_token : List Token → ℕ → At (Result Token Miss)
unfolding next_adjacent
get_token ts i = here (token_due (next_adjacent ts i).answer) (next_adjacent ts i).index

-- ---- one token: registers and condition codes

-- "5. A register was due (a: kind met)."
abbrev pub no_register : Token → Miss
no_register t = ExpectedRegister (strip t.kind) t.location

abbrev pub register_met : Token → Option RegisterSlot → Answer RegisterSlot
register_met t (Some r) = Got r
register_met t None = Missed (no_register t)

abbrev pub register_seen : Option Token → Answer RegisterSlot
register_seen None = Missed EndOfFile
register_seen (Some t) = register_met t (as_register t.kind)

unfoldable pub get_register : List Token → ℕ → At (Answer RegisterSlot)
unfolding next_adjacent
get_register ts i = here (register_seen (next_adjacent ts i).answer) (next_adjacent ts i).index

abbrev pub fp_register_met : Token → Option FPRegisterSlot → Answer FPRegisterSlot
fp_register_met t (Some r) = Got r
fp_register_met t None = Missed (no_register t)

abbrev pub fp_register_seen : Option Token → Answer FPRegisterSlot
fp_register_seen None = Missed EndOfFile
fp_register_seen (Some t) = fp_register_met t (as_fp_register t.kind)

unfoldable pub get_fp_register : List Token → ℕ → At (Answer FPRegisterSlot)
unfolding next_adjacent
get_fp_register ts i = here (fp_register_seen (next_adjacent ts i).answer) (next_adjacent ts i).index

-- "6. A constant was due (a: kind met)."
abbrev pub no_constant : Token → Miss
no_constant t = ExpectedConstant (strip t.kind) t.location

-- a condition code takes no sign
abbrev pub code_met : Token → Option ℕ → Answer ℕ
code_met t (Some n) = Got n
code_met t None = Missed (no_constant t)

abbrev pub code_seen : Option Token → Answer ℕ
code_seen None = Missed EndOfFile
code_seen (Some t) = code_met t (as_integer t.kind)

unfoldable pub get_cc : List Token → ℕ → At (Answer ℕ)
unfolding next_adjacent
get_cc ts i = here (code_seen (next_adjacent ts i).answer) (next_adjacent ts i).index

-- ---- numbers: a literal, or a sign and a literal

-- "negation wraps at 64 bits"
abbrev pub with_sign : Bool → ℕ → ℕ
with_sign minus n = elim minus [ true ↦ (2 ^ 64 - n) % 2 ^ 64 | false ↦ n ]

-- "A sign must be followed by an IntegerLiteral ... After a failed sign the cursor is set back": to the index after the sign
abbrev pub literal_met : Bool → ℕ → ℕ → Option ℕ → At (Option ℕ)
literal_met minus back next (Some n) = here (Some (with_sign minus n)) next
literal_met minus back next None = here None back

abbrev pub literal_seen : Bool → ℕ → ℕ → Option Token → At (Option ℕ)
literal_seen minus back next None = here None back
literal_seen minus back next (Some t) = literal_met minus back next (as_integer t.kind)

unfoldable pub signed : Bool → List Token → ℕ → At (Option ℕ)
unfolding next_adjacent
signed minus ts i = literal_seen minus i (next_adjacent ts i).index (next_adjacent ts i).answer

-- the number that begins with the token t; i is the index after t
unfoldable pub get_integer : Token → List Token → ℕ → At (Option ℕ)
unfolding signed
get_integer t ts i =
    elim (is_kind 9 t) [ true ↦ signed false ts i | false ↦ elim (is_kind 10 t) [ true ↦ signed true ts i | false ↦ here (as_integer t.kind) i ] ]

-- what `make` gives for the next token and the number that begins with it
abbrev pub number_seen : {A : Type 0} → (Token → Option ℕ → Answer A) → List Token → ℕ → Option Token → At (Answer A)
number_seen make ts i None = here (Missed EndOfFile) i
number_seen make ts i (Some t) = here (make t (get_integer t ts i).answer) (get_integer t ts i).index

-- ---- a constant

abbrev pub constant_met : Token → Option ℕ → Answer ℕ
constant_met t (Some n) = Got n
constant_met t None = Missed (no_constant t)

unfoldable pub get_constant : List Token → ℕ → At (Answer ℕ)
unfolding next_adjacent get_integer
get_constant ts i = number_seen constant_met ts (next_adjacent ts i).index (next_adjacent ts i).answer

-- ---- a register or a number

-- a register, or refusal 5
abbrev pub slot_met : Token → Option RegisterSlot → Answer InstructionValue
slot_met t (Some r) = Got (Slot r)
slot_met t None = Missed (no_register t)

abbrev pub value_met : Token → Option ℕ → Answer InstructionValue
value_met t (Some n) = Got (Literal n)
value_met t None = slot_met t (as_register t.kind)

unfoldable pub get_value : List Token → ℕ → At (Answer InstructionValue)
unfolding next_adjacent get_integer
get_value ts i = number_seen value_met ts (next_adjacent ts i).index (next_adjacent ts i).answer

-- the optional third operand of Inputs: a value, and i is the index after it; or none, and j is the index of the next token that is not passed over
abbrev pub maybe_met : ℕ → ℕ → Answer InstructionValue → At (Answer (Option InstructionValue))
maybe_met j i (Got v) = here (Got (Some v)) i
maybe_met j i (Missed m) = here (Got None) j

unfoldable pub maybe_get_value : List Token → ℕ → At (Answer (Option InstructionValue))
unfolding peek_adjacent get_value
maybe_get_value ts i = maybe_met (peek_adjacent ts i).index (get_value ts i).index (get_value ts i).answer
