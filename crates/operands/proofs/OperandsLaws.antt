-- Laws of the operand readers: a read as an equation, and each reader's answer case by case. Assumes nothing.
use Rattle.std.specs.Prelude.{◌≡◌, ℕ, Bool, true, false, List, ◌≢◌, refl, Err, Ok, Option, Result, None, Some, MatchOption, is_ok}
use Rattle.std.proofs.Common.{arith, sym, ◌∙◌}
use Rattle.std.proofs.Math.Path.{ap}
use borrow.Author.Tests.{eq-eqb, ne_eqb}
use Rattle.lexer.specs.declared.Token.{Token}
use Rattle.lexer.specs.declared.TokenKind.{TokenKind}
use Rattle.lexer.specs.declared.TokenKind.TheVariants.{Plus, Minus}
use Rattle.lexer.specs.Tokens.{strip}
use Rattle.lexer.specs.Views.{as_integer}
use Rattle.cursor.specs.declared.Cursor.{Cursor}
use Rattle.cursor.specs.Cursors.{At, next_adjacent, peek_adjacent}
use Rattle.cursor.proofs.CursorsLaws.{cursor_is}
use Rattle.cursor.specs.Reads.{Placed, ReadAs}
use Rattle.operand.specs.declared.Want.{Want}
use Rattle.operand.specs.declared.Want.TheVariants.{Value, MaybeValue}
use Rattle.operand.specs.declared.InstructionValue.{InstructionValue}
use Rattle.operand.specs.declared.Miss.{Miss}
use Rattle.operand.specs.declared.Operand.{Operand}
use Rattle.operand.specs.Answers.{Answer, Got, Missed, Asked, answer_of, here, given}
use Rattle.operand.specs.Held.{held_answer}
use Rattle.operand.proofs.HeldLaws.{answer_held}
use Rattle.operands.specs.Operands.{signed, literal_met, literal_seen, get_integer, number_seen, constant_met, get_constant, value_met, get_value, maybe_met, maybe_get_value}

-- ---- readings

-- An answer, with a cursor that stands in the list, is a read if both match x.
pub read_at : {A : Type 0} (s : List ℕ) (x : At A) (answer : A) (cursor : Cursor) → Placed s cursor → x ≡ here answer cursor.index → ReadAs s x answer cursor
read_at {A} s x answer cursor p e =
    record { answer_is = sym (ap (λ (y : At A). y.answer) e); cursor_is = cursor_is s cursor x.index p (sym (ap (λ (y : At A). y.index) e)); placed = p }

module _ {A : Type 0} {s : List ℕ} {x : At A} {answer : A} {cursor : Cursor} (r : ReadAs s x answer cursor) where
  pub read_index : cursor.index ≡ x.index
  read_index = ap (λ (c : Cursor). c.index) r.cursor_is

  pub read_is : (b : A) → answer ≡ b → x ≡ here b cursor.index
  read_is b e = ap (λ (a : A). here a x.index) (sym r.answer_is ∙ e) ∙ ap (here b) (sym read_index)

  -- A function of the answer is read together with the answer.
  pub read_made : {B : Type 0} (f : A → B) (b : B) → b ≡ f answer → ReadAs s (here (f x.answer) x.index) b cursor
  read_made f b e = record { answer_is = e ∙ ap f r.answer_is; cursor_is = r.cursor_is; placed = r.placed }

-- What was read for this want, from the operand that the reader gives.
pub reader_is : (w : Want) {s : List ℕ} {x : At (Answer (Asked w))} {answer : (Result Operand Miss)} {cursor : Cursor} → ReadAs s (given w x) answer cursor
    → (b : Result Operand Miss) → answer ≡ b → x ≡ here (held_answer w b) cursor.index
reader_is w {x = x} r b e =
    ap (λ (a : Answer (Asked w)). here a x.index) (answer_held w (sym e ∙ r.answer_is)) ∙ ap (here (held_answer w b)) (sym (read_index r))

-- A function of what was read.
pub held_made : (w : Want) {B : Type 0} {s : List ℕ} {x : At (Answer (Asked w))} {answer : (Result Operand Miss)} {cursor : Cursor} → ReadAs s (given w x) answer cursor
    → (f : Answer (Asked w) → B) (b : B) → b ≡ f (held_answer w answer) → ReadAs s (here (f x.answer) x.index) b cursor
held_made w r f b e = record { answer_is = e ∙ ap f (sym (answer_held w r.answer_is)); cursor_is = r.cursor_is; placed = r.placed }

-- ---- by the token met

pub plus_of : (k : TokenKind) → strip k ≡ 9 → k ≡ Plus
plus_of k e = grind arith

pub minus_of : (k : TokenKind) → strip k ≡ 10 → k ≡ Minus
minus_of k e = grind arith

-- The literal, from the number that the token met gives.
pub literal_of : (minus : Bool) (back next : ℕ) (seen : Option Token) (n : Option ℕ) {post : Token → Type 0} → MatchOption seen (n ≡ None) post → ((t : Token) → post t → n ≡ as_integer t.kind)
    → literal_seen minus back next seen ≡ literal_met minus back next n
literal_of minus back next None n h each = ap (literal_met minus back next) (sym h)
literal_of minus back next (Some t) n h each = ap (literal_met minus back next) (sym (each t h))

module _ (ts : List Token) (i : ℕ) where
  module _ {seen : (Option Token)} {j : ℕ} (e : next_adjacent ts i ≡ here seen j) where
    pub signed_is : (minus : Bool) → signed minus ts i ≡ literal_seen minus i j seen
    unfolding signed
    signed_is minus = ap (λ (x : At (Option Token)). literal_seen minus i x.index x.answer) e

    pub constant_is : get_constant ts i ≡ number_seen constant_met ts j seen
    unfolding get_constant
    constant_is = ap (λ (x : At (Option Token)). number_seen constant_met ts x.index x.answer) e

    pub value_is : get_value ts i ≡ number_seen value_met ts j seen
    unfolding get_value
    value_is = ap (λ (x : At (Option Token)). number_seen value_met ts x.index x.answer) e

  module _ (t : Token) where
    pub integer_plus : strip t.kind ≡ 9 → get_integer t ts i ≡ signed false ts i
    unfolding get_integer
    integer_plus e = rw (eq-eqb (strip t.kind) 9 e, get_integer)

    pub integer_minus : strip t.kind ≡ 10 → get_integer t ts i ≡ signed true ts i
    unfolding get_integer
    integer_minus e = rw (ne_eqb (strip t.kind) 9 (λ h. omega arith), eq-eqb (strip t.kind) 10 e, get_integer)

    pub integer_bare : (strip t.kind ≢ 9) → (strip t.kind ≢ 10) → get_integer t ts i ≡ here (as_integer t.kind) i
    unfolding get_integer
    integer_bare g h = rw (ne_eqb (strip t.kind) 9 g, ne_eqb (strip t.kind) 10 h, get_integer)

-- ---- the optional operand, from what was read as a value

some_made : (j i : ℕ) (a : Answer InstructionValue) {o : Operand} → Ok o ≡ answer_of Value a → given MaybeValue (maybe_met j i a) ≡ given Value (here a i)
some_made j i (Got v) e = refl
some_made j i (Missed m) e = cc

none_made : (j i : ℕ) (a : Answer InstructionValue) {m : Miss} → Err m ≡ answer_of Value a → maybe_met j i a ≡ here (Got None) j
none_made j i (Got v) e = cc
none_made j i (Missed m) e = refl

module _ (ts : List Token) (i : ℕ) where
  pub maybe_some : {o : Operand} → Ok o ≡ answer_of Value (get_value ts i).answer → given MaybeValue (maybe_get_value ts i) ≡ given Value (get_value ts i)
  unfolding maybe_get_value
  maybe_some e = some_made (peek_adjacent ts i).index (get_value ts i).index (get_value ts i).answer e

  pub maybe_none : {m : Miss} → Err m ≡ answer_of Value (get_value ts i).answer → maybe_get_value ts i ≡ here (Got None) (peek_adjacent ts i).index
  unfolding maybe_get_value
  maybe_none e = none_made (peek_adjacent ts i).index (get_value ts i).index (get_value ts i).answer e

  pub maybe_read : (r : Result Operand Miss) → r ≡ answer_of Value (get_value ts i).answer → is_ok r ≡ true → given MaybeValue (maybe_get_value ts i) ≡ given Value (get_value ts i)
  maybe_read (Ok o) e t = maybe_some e
  maybe_read (Err m) e t = cc

  pub maybe_absent : (r : Result Operand Miss) → r ≡ answer_of Value (get_value ts i).answer → is_ok r ≡ false → maybe_get_value ts i ≡ here (Got None) (peek_adjacent ts i).index
  maybe_absent (Ok o) e t = cc
  maybe_absent (Err m) e t = maybe_none e
