-- Labels and offsets: the operand readers (assembler_util.rs) on a decoded token list and an index (document 01, 'Tokens'). Assumes nothing.
use Rattle.std.specs.Prelude.{ℕ, List, Bool, true, false, None, Option, Some}
use Rattle.record.specs.declared.Location.{Location}
use Rattle.registers.specs.declared.RegisterSlot.{RegisterSlot}
use Rattle.lexer.specs.declared.Text.{Text}
use Rattle.lexer.specs.declared.Token.{Token}
use Rattle.lexer.specs.Tokens.{strip}
use Rattle.lexer.specs.Views.{as_symbol}
use Rattle.address_label.specs.declared.AddressLabel.{AddressLabel}
use Rattle.address_label.specs.declared.AddressLabel.TheVariants.{Constant, Label}
use Rattle.cursor.specs.Cursors.{At, step, next_adjacent, peek_adjacent}
use Rattle.operand.specs.declared.Miss.TheVariants.{EndOfFile, ExpectedLabel, ExpectedRightBrace}
use Rattle.operands.specs.Operands.{is_kind, get_register, get_integer, get_constant}
use Rattle.operand.specs.declared.OffsetOrLabel.{OffsetOrLabel}
use Rattle.operand.specs.declared.OffsetOrLabel.TheVariants.{Label as LabelAlone, Offset}
use Rattle.operand.specs.Answers.{Answer, Got, Missed, here}

-- whether there is a token, and its kind has that number
abbrev pub is_met : ℕ → Option Token → Bool
is_met n None = false
is_met n (Some t) = is_kind n t

-- ---- a label: "a number, or a Symbol with an optional Plus and constant"

abbrev pub named : Text → Location → ℕ → AddressLabel
named x l offset = Label (record { name_at = x.start; name_len = x.len; location = l; offset = offset })

abbrev pub plus_constant : Text → Location → Answer ℕ → Answer AddressLabel
plus_constant x l (Got n) = Got (named x l n)
plus_constant x l (Missed m) = Missed m

-- a label that begins with the Symbol x at l; i is the index after x, and `ahead` the next token that is not passed over
abbrev pub plus_seen : Text → Location → List Token → ℕ → At (Option Token) → At (Answer AddressLabel)
plus_seen x l ts i ahead =
    elim (is_met 9 ahead.answer) [
      | true ↦ here (plus_constant x l (get_constant ts (step ts ahead.index)).answer) (get_constant ts (step ts ahead.index)).index
      | false ↦ here (Got (named x l 0)) i
    ]

unfoldable pub symbol_label : Text → Location → List Token → ℕ → At (Answer AddressLabel)
unfolding get_constant peek_adjacent step
symbol_label x l ts i = plus_seen x l ts i (peek_adjacent ts i)

-- "7. A label was due (a: kind met)."
abbrev pub symbol_met : Token → List Token → ℕ → Option Text → At (Answer AddressLabel)
symbol_met t ts i (Some x) = symbol_label x t.location ts i
symbol_met t ts i None = here (Missed (ExpectedLabel (strip t.kind) t.location)) i

abbrev pub label_met : Token → List Token → ℕ → Option ℕ → At (Answer AddressLabel)
label_met t ts i (Some n) = here (Got (Constant n)) i
label_met t ts i None = symbol_met t ts i (as_symbol t.kind)

-- the label that begins with the token t; i is the index after t
unfoldable pub to_label : Token → List Token → ℕ → At (Answer AddressLabel)
unfolding get_integer symbol_label
to_label t ts i = label_met t ts (get_integer t ts i).index (get_integer t ts i).answer

abbrev pub label_seen : List Token → ℕ → Option Token → At (Answer AddressLabel)
label_seen ts i None = here (Missed EndOfFile) i
label_seen ts i (Some t) = to_label t ts i

unfoldable pub get_label : List Token → ℕ → At (Answer AddressLabel)
unfolding next_adjacent to_label
get_label ts i = label_seen ts (next_adjacent ts i).index (next_adjacent ts i).answer

-- ---- an offset with a register in braces, or a label

-- "8. A right brace was due (a: kind met)."
abbrev pub closed_seen : AddressLabel → RegisterSlot → Option Token → Answer OffsetOrLabel
closed_seen label r None = Missed EndOfFile
closed_seen label r (Some t) = elim (is_kind 15 t) [ true ↦ Got (Offset label r) | false ↦ Missed (ExpectedRightBrace (strip t.kind) t.location) ]

abbrev pub braced_by : AddressLabel → List Token → ℕ → Answer RegisterSlot → At (Answer OffsetOrLabel)
braced_by label ts i (Got r) = here (closed_seen label r (next_adjacent ts i).answer) (next_adjacent ts i).index
braced_by label ts i (Missed m) = here (Missed m) i

unfoldable pub braced : AddressLabel → List Token → ℕ → At (Answer OffsetOrLabel)
unfolding get_register next_adjacent
braced label ts i = braced_by label ts (get_register ts i).index (get_register ts i).answer

-- "In `get_offset_or_label` a label error is dropped when the next token is LeftBrace, and the offset is then 0."
abbrev pub or_zero : Answer AddressLabel → AddressLabel
or_zero (Got label) = label
or_zero (Missed m) = Constant 0

abbrev pub unbraced : Answer AddressLabel → Answer OffsetOrLabel
unbraced (Got label) = Got (LabelAlone label)
unbraced (Missed m) = Missed m

abbrev pub brace_seen : Answer AddressLabel → List Token → At (Option Token) → At (Answer OffsetOrLabel)
brace_seen label ts ahead =
    elim (is_met 14 ahead.answer) [
      | true ↦ braced (or_zero label) ts (step ts ahead.index)
      | false ↦ here (unbraced label) ahead.index
    ]

unfoldable pub after_label : Answer AddressLabel → List Token → ℕ → At (Answer OffsetOrLabel)
unfolding peek_adjacent step braced
after_label label ts i = brace_seen label ts (peek_adjacent ts i)

-- a label, and what follows it; where the tokens end, nothing follows
unfoldable pub get_offset_or_label : List Token → ℕ → At (Answer OffsetOrLabel)
unfolding get_label after_label
get_offset_or_label ts i = after_label (get_label ts i).answer ts (get_label ts i).index
