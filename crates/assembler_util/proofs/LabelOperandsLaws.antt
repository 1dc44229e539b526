-- Laws of the label readers: what each reads, depending on the tokens that it meets. Assumes nothing.
use Rattle.std.specs.Prelude.{ℕ, true, false, List, ◌≡◌, Option, Some}
use Rattle.std.proofs.Math.Path.{ap}
use Rattle.std.proofs.Common.{◌∙◌, eq-eqb, ne_eqb}
use Rattle.record.specs.declared.Location.{Location}
use Rattle.registers.specs.declared.RegisterSlot.{RegisterSlot}
use Rattle.lexer.specs.declared.Text.{Text}
use Rattle.lexer.specs.declared.Token.{Token}
use Rattle.lexer.specs.Tokens.{strip}
use Rattle.address_label.specs.declared.AddressLabel.{AddressLabel}
use Rattle.cursor.specs.Cursors.{At, step, next_adjacent, peek_adjacent}
use Rattle.operand.specs.declared.Miss.TheVariants.{ExpectedRightBrace}
use Rattle.operands.specs.Operands.{get_register, get_integer, get_constant}
use Rattle.operand.specs.declared.OffsetOrLabel.TheVariants.{Offset}
use Rattle.operand.specs.Answers.{Answer, Got, Missed, here}
use Rattle.assembler_util.specs.LabelOperands.{is_met, named, plus_constant, plus_seen, symbol_label, label_met, to_label, label_seen, get_label, closed_seen, braced_by, braced, or_zero, unbraced, brace_seen, after_label, get_offset_or_label}

-- the right brace
module _ (label : AddressLabel) (r : RegisterSlot) {seen : (Option Token)} {t : Token} (met : seen ≡ Some t) where
  pub closed_brace : strip t.kind ≡ 15 → closed_seen label r seen ≡ Got (Offset label r)
  closed_brace k = rw met (simp (eq-eqb (strip t.kind) 15 k, closed_seen))

  pub closed_other : (strip t.kind ≡ 15 → ⊥) → closed_seen label r seen ≡ Missed (ExpectedRightBrace (strip t.kind) t.location)
  closed_other k = rw met (simp (ne_eqb (strip t.kind) 15 k, closed_seen))

module _ (ts : List Token) (i : ℕ) where
  -- ---- by what is read first

  pub label_is : {seen : (Option Token)} {j : ℕ} → next_adjacent ts i ≡ here seen j → get_label ts i ≡ label_seen ts j seen
  unfolding get_label
  label_is e = ap (λ (x : At (Option Token)). label_seen ts x.index x.answer) e

  pub first_is : (t : Token) {number : (Option ℕ)} {j : ℕ} → get_integer t ts i ≡ here number j → to_label t ts i ≡ label_met t ts j number
  unfolding to_label
  first_is t e = ap (λ (x : At (Option ℕ)). label_met t ts x.index x.answer) e

  pub braced_is : (label : AddressLabel) {register : Answer RegisterSlot} {j : ℕ} → get_register ts i ≡ here register j → braced label ts i ≡ braced_by label ts j register
  unfolding braced
  braced_is label e = ap (λ (x : At (Answer RegisterSlot)). braced_by label ts x.index x.answer) e

  pub offset_is : {label : Answer AddressLabel} {j : ℕ} → get_label ts i ≡ here label j → get_offset_or_label ts i ≡ after_label label ts j
  unfolding get_offset_or_label
  offset_is e = ap (λ (x : At (Answer AddressLabel)). after_label x.answer ts x.index) e

  -- ---- by the next token that is not passed over

  module _ {seen : (Option Token)} {j : ℕ} (e : peek_adjacent ts i ≡ here seen j) where
    symbol_is : (x : Text) (l : Location) → symbol_label x l ts i ≡ plus_seen x l ts i (here seen j)
    unfolding symbol_label
    symbol_is x l = ap (plus_seen x l ts i) e

    pub symbol_plus : (x : Text) (l : Location) {n : ℕ} → is_met 9 seen ≡ true → step ts j ≡ n
        → symbol_label x l ts i ≡ here (plus_constant x l (get_constant ts n).answer) (get_constant ts n).index
    symbol_plus x l k n = symbol_is x l ∙ rw (k, n)

    pub symbol_other : (x : Text) (l : Location) → is_met 9 seen ≡ false → symbol_label x l ts i ≡ here (Got (named x l 0)) i
    symbol_other x l k = symbol_is x l ∙ rw k

    after_is : (label : Answer AddressLabel) → after_label label ts i ≡ brace_seen label ts (here seen j)
    unfolding after_label
    after_is label = ap (brace_seen label ts) e

    pub after_brace : (label : Answer AddressLabel) {n : ℕ} → is_met 14 seen ≡ true → step ts j ≡ n → after_label label ts i ≡ braced (or_zero label) ts n
    after_brace label k n = after_is label ∙ rw (k, n)

    pub after_other : (label : Answer AddressLabel) → is_met 14 seen ≡ false → after_label label ts i ≡ here (unbraced label) j
    after_other label k = after_is label ∙ rw k
