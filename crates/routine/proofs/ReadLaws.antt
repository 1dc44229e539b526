-- What the operand readers give for tokens that fit: each label fits a pending record. Assumes nothing.
use Rattle.std.specs.Prelude.{ℕ, ◌^◌, ◌<◌, List, Bool, length, get_or, ltb, None, Option, Some}
use Rattle.std.proofs.Common.{arith}
use Rattle.std.proofs.Math.Bool.{true, false}
use Rattle.record.specs.Stores.{LocationFits}
use Rattle.record.specs.declared.Location.{Location}
use Rattle.registers.specs.declared.RegisterSlot.{RegisterSlot}
use Rattle.lexer.specs.Views.{as_integer, as_symbol}
use Rattle.lexer.specs.declared.Text.{Text}
use Rattle.lexer.specs.declared.Token.{Token}
use Rattle.address_label.specs.LabelBytes.{LabelFits}
use Rattle.address_label.specs.declared.AddressLabel.{AddressLabel}
use Rattle.cursor.specs.Cursors.{At, no_token, seek, peek, step, next_adjacent, peek_adjacent}
use Rattle.operand.specs.Answers.{Answer, Got, Missed, Asked, here}
use Rattle.operand.specs.declared.OffsetOrLabel.{OffsetOrLabel}
use Rattle.operand.specs.declared.OffsetOrLabel.TheVariants.{Label as LabelAlone, Offset}
use Rattle.operand.specs.declared.Want.{Want}
use Rattle.operand.specs.declared.Want.TheVariants.{Register as a_register, FPRegister as an_fp_register, Code as a_code, Value as a_value, MaybeValue as maybe_value, Constant as a_constant, Label as a_label, OffsetOrLabel as an_offset, Nothing as nothing}
use Rattle.operands.specs.Operands.{is_kind, literal_met, literal_seen, signed, get_integer, get_register, constant_met, number_seen, get_constant}
use Rattle.assembler_util.specs.LabelOperands.{is_met, named, plus_constant, plus_seen, symbol_label, symbol_met, label_met, to_label, label_seen, get_label, closed_seen, braced_by, braced, or_zero, unbraced, brace_seen, after_label, get_offset_or_label}
use Rattle.operand_list.specs.OperandLists.{read_operand, AskedAll, then_read, third_from, second_from, read_operands}
use Rattle.operand_list.specs.declared.Wants.{Wants}
use Rattle.routine.proofs.TokenLaws.{TextFits, IntegerFits, SymbolFits, TokenFits}

-- P holds if the answer was got.
abbrev pub Of : {A : Type 0} → (A → Type 0) → Answer A → Type 0
Of P (Got x) = P x
Of P (Missed m) = Unit {0}

abbrev Small : ℕ → Type 0
Small n = n < 2 ^ 64

module _ (names : List ℕ) where
  abbrev pub OffsetFits : OffsetOrLabel → Type 0
  OffsetFits (LabelAlone label) = LabelFits names label
  OffsetFits (Offset label r) = LabelFits names label

  abbrev SeenFits : Option Token → Type 0
  SeenFits None = Unit {0}
  SeenFits (Some t) = TokenFits names t

  -- An operand's labels fit.
  abbrev pub AskedFits : (w : Want) → Asked w → Type 0
  AskedFits a_register x = Unit {0}
  AskedFits an_fp_register x = Unit {0}
  AskedFits a_code x = Unit {0}
  AskedFits a_value x = Unit {0}
  AskedFits maybe_value x = Unit {0}
  AskedFits a_constant x = Unit {0}
  AskedFits a_label x = LabelFits names x
  AskedFits an_offset x = OffsetFits x
  AskedFits nothing x = Unit {0}

  abbrev pub AllFit : (w : Wants) → AskedAll w → Type 0
  AllFit w x = AskedFits w.first x.0 × AskedFits w.second x.1 × AskedFits w.third x.2

-- What holds in both cases of a test holds for its result.
either : {A : Type 0} (P : A → Type 0) {x y : A} (b : Bool) → P x → P y → P (elim b [ true ↦ x | false ↦ y ])
either P true p q = p
either P false p q = q

-- ---- numbers

sign_fits : (minus : Bool) (back next : ℕ) (m : Option ℕ) → IntegerFits m → IntegerFits (literal_met minus back next m).answer
sign_fits true back next (Some n) h = omega arith
sign_fits false back next (Some n) h = h
sign_fits minus back next None h = tt

constant_met_lem : (t : Token) (m : Option ℕ) → IntegerFits m → Of Small (constant_met t m)
constant_met_lem t (Some n) h = h
constant_met_lem t None h = tt

-- ---- labels

module _ (names : List ℕ) where
  named_fits : (x : Text) (l : Location) (offset : ℕ) → TextFits names x → LocationFits l → offset < 2 ^ 64 → LabelFits names (named x l offset)
  named_fits x l offset h p o = record { offset_fits = o; location_fits = p; least = h.least; most = h.most; text = h.text }

  plus_fits : (x : Text) (l : Location) → TextFits names x → LocationFits l → (a : Answer ℕ) → Of Small a → Of (LabelFits names) (plus_constant x l a)
  plus_fits x l h p (Got n) o = named_fits x l n h p o
  plus_fits x l h p (Missed m) o = tt

  zero_fits : (a : Answer AddressLabel) → Of (LabelFits names) a → LabelFits names (or_zero a)
  zero_fits (Got label) h = h
  zero_fits (Missed m) h = omega arith

  alone_fits : (a : Answer AddressLabel) → Of (LabelFits names) a → Of (OffsetFits names) (unbraced a)
  alone_fits (Got label) h = h
  alone_fits (Missed m) h = tt

  closed_fits : (label : AddressLabel) (r : RegisterSlot) → LabelFits names label → (seen : Option Token) → Of (OffsetFits names) (closed_seen label r seen)
  closed_fits label r h None = tt
  closed_fits label r h (Some t) = either (Of (OffsetFits names)) (is_kind 15 t) h tt

-- ---- the readers on tokens that fit

module _ (names : List ℕ) (ts : List Token) (fit : (i : ℕ) → TokenFits names (get_or ts i no_token)) where
  peek_fits : (i : ℕ) → SeenFits names (peek ts i)
  unfolding peek
  peek_fits i = either (SeenFits names) (ltb i (length ts)) (fit i) tt

  next_fits : (i : ℕ) → SeenFits names (next_adjacent ts i).answer
  unfolding next_adjacent
  next_fits i = peek_fits (seek ts i)

  literal_fits : (minus : Bool) (back next : ℕ) (seen : Option Token) → SeenFits names seen → IntegerFits (literal_seen minus back next seen).answer
  literal_fits minus back next None h = tt
  literal_fits minus back next (Some t) h = sign_fits minus back next (as_integer t.kind) h.integer_fits

  signed_fits : (minus : Bool) (i : ℕ) → IntegerFits (signed minus ts i).answer
  unfolding signed
  signed_fits minus i = literal_fits minus i (next_adjacent ts i).index (next_adjacent ts i).answer (next_fits i)

  integer_fits : (t : Token) → TokenFits names t → (i : ℕ) → IntegerFits (get_integer t ts i).answer
  unfolding get_integer
  integer_fits t h i =
      either (λ (x : At (Option ℕ)). IntegerFits x.answer) (is_kind 9 t) (signed_fits false i)
      (either (λ (x : At (Option ℕ)). IntegerFits x.answer) (is_kind 10 t) (signed_fits true i) h.integer_fits)

  constant_seen : (i : ℕ) (seen : Option Token) → SeenFits names seen → Of Small (number_seen constant_met ts i seen).answer
  constant_seen i None h = tt
  constant_seen i (Some t) h = constant_met_lem t (get_integer t ts i).answer (integer_fits t h i)

  constant_fits : (i : ℕ) → Of Small (get_constant ts i).answer
  unfolding get_constant
  constant_fits i = constant_seen (next_adjacent ts i).index (next_adjacent ts i).answer (next_fits i)

  -- ---- labels

  -- The label of an answer, if there is one, fits.
  abbrev LabelAt : At (Answer AddressLabel) → Type 0
  LabelAt x = Of (LabelFits names) x.answer

  abbrev OffsetAt : At (Answer OffsetOrLabel) → Type 0
  OffsetAt x = Of (OffsetFits names) x.answer

  plus_seen_lem : (x : Text) (l : Location) → TextFits names x → LocationFits l → (i : ℕ) (ahead : At (Option Token)) → LabelAt (plus_seen x l ts i ahead)
  plus_seen_lem x l h p i ahead =
      let j = step ts ahead.index in
      either LabelAt (is_met 9 ahead.answer) (plus_fits names x l h p (get_constant ts j).answer (constant_fits j)) (named_fits names x l 0 h p (omega arith))

  symbol_fits : (x : Text) (l : Location) → TextFits names x → LocationFits l → (i : ℕ) → LabelAt (symbol_label x l ts i)
  unfolding symbol_label
  symbol_fits x l h p i = plus_seen_lem x l h p i (peek_adjacent ts i)

  symbol_met_lem : (t : Token) → TokenFits names t → (i : ℕ) (m : Option Text) → SymbolFits names m → LabelAt (symbol_met t ts i m)
  symbol_met_lem t h i (Some x) f = symbol_fits x t.location f h.place_fits i
  symbol_met_lem t h i None f = tt

  label_met_lem : (t : Token) → TokenFits names t → (i : ℕ) (m : Option ℕ) → IntegerFits m → LabelAt (label_met t ts i m)
  label_met_lem t h i (Some n) f = f
  label_met_lem t h i None f = symbol_met_lem t h i (as_symbol t.kind) h.symbol_fits

  first_fits : (t : Token) → TokenFits names t → (i : ℕ) → LabelAt (to_label t ts i)
  unfolding to_label
  first_fits t h i = label_met_lem t h (get_integer t ts i).index (get_integer t ts i).answer (integer_fits t h i)

  label_seen_lem : (i : ℕ) (seen : Option Token) → SeenFits names seen → LabelAt (label_seen ts i seen)
  label_seen_lem i None h = tt
  label_seen_lem i (Some t) h = first_fits t h i

  label_fits : (i : ℕ) → LabelAt (get_label ts i)
  unfolding get_label
  label_fits i = label_seen_lem (next_adjacent ts i).index (next_adjacent ts i).answer (next_fits i)

  -- ---- offsets

  braced_by_lem : (label : AddressLabel) → LabelFits names label → (i : ℕ) (r : Answer RegisterSlot) → OffsetAt (braced_by label ts i r)
  braced_by_lem label h i (Got r) = closed_fits names label r h (next_adjacent ts i).answer
  braced_by_lem label h i (Missed m) = tt

  braced_fits : (label : AddressLabel) → LabelFits names label → (i : ℕ) → OffsetAt (braced label ts i)
  unfolding braced
  braced_fits label h i = braced_by_lem label h (get_register ts i).index (get_register ts i).answer

  brace_seen_lem : (label : Answer AddressLabel) → Of (LabelFits names) label → (ahead : At (Option Token)) → OffsetAt (brace_seen label ts ahead)
  brace_seen_lem label h ahead =
      either OffsetAt (is_met 14 ahead.answer) (braced_fits (or_zero label) (zero_fits names label h) (step ts ahead.index)) (alone_fits names label h)

  after_fits : (label : Answer AddressLabel) → Of (LabelFits names) label → (i : ℕ) → OffsetAt (after_label label ts i)
  unfolding after_label
  after_fits label h i = brace_seen_lem label h (peek_adjacent ts i)

  offset_fits : (i : ℕ) → OffsetAt (get_offset_or_label ts i)
  unfolding get_offset_or_label
  offset_fits i = after_fits (get_label ts i).answer (label_fits i) (get_label ts i).index

  -- ---- operands

  none_held : {A : Type 0} (a : Answer A) → Of (λ (x : A). Unit {0}) a
  none_held (Got x) = tt
  none_held (Missed m) = tt

  operand_fits : (w : Want) (i : ℕ) → Of (AskedFits names w) (read_operand w ts i).answer
  unfolding read_operand
  operand_fits a_register i = none_held (read_operand a_register ts i).answer
  operand_fits an_fp_register i = none_held (read_operand an_fp_register ts i).answer
  operand_fits a_code i = none_held (read_operand a_code ts i).answer
  operand_fits a_value i = none_held (read_operand a_value ts i).answer
  operand_fits maybe_value i = none_held (read_operand maybe_value ts i).answer
  operand_fits a_constant i = none_held (read_operand a_constant ts i).answer
  operand_fits a_label i = label_fits i
  operand_fits an_offset i = offset_fits i
  operand_fits nothing i = tt

  then_fits : {A B : Type 0} (P : A → Type 0) (Q : B → Type 0) (a : Answer A) (i : ℕ) (next : A → ℕ → At (Answer B)) → Of P a
      → ((x : A) (j : ℕ) → P x → Of Q (next x j).answer) → Of Q (then_read a i next).answer
  then_fits P Q (Got x) i next h f = f x i h
  then_fits P Q (Missed m) i next h f = tt

  pub operands_fit : (w : Wants) (i : ℕ) → Of (AllFit names w) (read_operands w ts i).answer
  unfolding read_operands
  operands_fit w i =
      let P = AskedFits names in
      let Q = AllFit names w in
      then_fits (P w.first) Q (read_operand w.first ts i).answer (read_operand w.first ts i).index (second_from w ts) (operand_fits w.first i) (λ a j p.
      then_fits (P w.second) Q (read_operand w.second ts j).answer (read_operand w.second ts j).index (third_from w ts a) (operand_fits w.second j) (λ b k q.
      then_fits (P w.third) Q (read_operand w.third ts k).answer (read_operand w.third ts k).index (λ c n. here (Got (a, b, c)) n) (operand_fits w.third k) (λ c n r. (p, q, r))))
