-- Lemmas on a token record with bytes behind it: it is whole, passes the token's test and reads back. Assumes nothing.
use Rattle.std.specs.Prelude.{ℕ, ◌+◌, ◌<◌, ◌^◌, Bool, true, ◌&&◌, ◌≡◌, refl, length, get_or, take, T, Float}
use Rattle.std.proofs.Common.{arith, sym, ◌∙◌, length-append, lit<, le-leb}
use mathlib.Core.List.{List, [], ◌++◌}
use Rattle.std.proofs.Math.Bool.{and-eq-true_iff}
use Rattle.std.proofs.Math.Path.{ap, ap₂}
use Rattle.std.proofs.Math.Seq.{take-append_seam}
use Rattle.std.specs.Float.{binary64}
use Rattle.std.specs.Float.Ieee.{of_bits, to_bits, fits}
use Rattle.std.specs.Float.Ieee.Bits.{of_bits-to_bits}
use Rattle.record.specs.Bytes.{byte_at, le64}
use Rattle.record.specs.Records.{body_len, kind_at, next, whole}
use Rattle.record.specs.Stores.{location_bytes}
use Rattle.record.proofs.BehindLaws.{digits16, digits64, location_digits}
use Rattle.record.proofs.OneMoreLaws.{is_whole}
use Rattle.record.specs.declared.Location.{Location}
use Rattle.lexer.specs.Tokens.{payload_len, payload_of, payload_ok, text_of, token_ok, token_at, strip}
use Rattle.lexer.specs.declared.Payload.{Payload}
use Rattle.lexer.specs.declared.Payload.TheVariants.{Text as TextSort, Slot as SlotSort, Number as NumberSort, Name as NameSort, Nothing as NothingSort}
use Rattle.lexer.specs.declared.Token.{Token}
use Rattle.lexer.specs.declared.TokenKind.{TokenKind}
use Rattle.lexer.specs.declared.TokenKind.TheVariants.{Comment, Directive, Parameter, Register, FPRegister, IntegerLiteral, FloatLiteral, StringLiteral, Symbol, Plus, Minus, Comma, Colon, NewLine, LeftBrace, RightBrace}
use Rattle.token_bytes.specs.declared.Carried.{Carried}
use Rattle.token_bytes.specs.declared.Carried.TheVariants.{Text, Slot, Number, Name, Nothing}
use Rattle.token_bytes.specs.TokenBytes.{carried_by, carried_bytes, carried_size, token_bytes, CarriedFits, TokenFits}
use Rattle.token_bytes.proofs.TokenBytesLaws.{carried_length, carried_most}
use Rattle.token_bytes.specs.Meant.{meant, kind_meant, text_carried}
use Rattle.token_bytes.proofs.RegisterLaws.{register_read, fp_register_read}
use Rattle.token_bytes.proofs.BehindLaws.{ok_by, ok_by_lem, kinds_by, texts_by, meant_by, meant_by_lem}

both : {a b : Bool} → a ≡ true → b ≡ true → (a && b) ≡ true
both {a} {b} p q = (and-eq-true_iff a b).1 (p, q)

-- ---- by the kind
strip_lt : (kind : TokenKind) → strip kind < 16
strip_lt (Comment t) = lit< tt
strip_lt (Directive t) = lit< tt
strip_lt (Parameter t) = lit< tt
strip_lt (Register x) = lit< tt
strip_lt (FPRegister x) = lit< tt
strip_lt (IntegerLiteral n) = lit< tt
strip_lt (FloatLiteral x) = lit< tt
strip_lt (StringLiteral t) = lit< tt
strip_lt (Symbol t) = lit< tt
strip_lt Plus = lit< tt
strip_lt Minus = lit< tt
strip_lt Comma = lit< tt
strip_lt Colon = lit< tt
strip_lt NewLine = lit< tt
strip_lt LeftBrace = lit< tt
strip_lt RightBrace = lit< tt

abbrev sort_of : Carried → Payload
sort_of (Text t) = TextSort
sort_of (Slot n) = SlotSort
sort_of (Number n) = NumberSort
sort_of (Name t) = NameSort
sort_of Nothing = NothingSort

sort_is : (kind : TokenKind) → payload_of (strip kind) ≡ sort_of (carried_by kind)
unfolding payload_of
sort_is (Comment t) = refl
sort_is (Directive t) = refl
sort_is (Parameter t) = refl
sort_is (Register x) = refl
sort_is (FPRegister x) = refl
sort_is (IntegerLiteral n) = refl
sort_is (FloatLiteral x) = refl
sort_is (StringLiteral t) = refl
sort_is (Symbol t) = refl
sort_is Plus = refl
sort_is Minus = refl
sort_is Comma = refl
sort_is Colon = refl
sort_is NewLine = refl
sort_is LeftBrace = refl
sort_is RightBrace = refl

-- What a token carries passes the test of its sort, whatever follows.
carried_ok : (texts r : List ℕ) (x : Carried) → CarriedFits texts x
    → ok_by (sort_of x) (carried_size x) (byte_at (carried_bytes texts x ++ r) 0) (carried_bytes texts x) ≡ true
carried_ok texts r (Text t) f = both (le-leb t.len 64 f.most) f.text
carried_ok texts r (Slot n) f = le-leb n 31 f
carried_ok texts r (Number n) f = refl
carried_ok texts r (Name t) f = both (both (le-leb 1 t.len f.1) (le-leb t.len 64 f.0.most)) f.0.text
carried_ok texts r Nothing f = refl

-- And it is read as what the token means.
record Read (texts r : List ℕ) (kind : TokenKind) : Type 0 where
  kind_read : get_or (kinds_by (carried_size (carried_by kind)) (byte_at (carried_bytes texts (carried_by kind) ++ r) 0) (le64 (carried_bytes texts (carried_by kind) ++ r) 0)) (strip kind) NewLine ≡ kind_meant kind
  text_read : get_or (texts_by (carried_bytes texts (carried_by kind))) (strip kind) [] ≡ text_carried texts (carried_by kind)

read : (texts r : List ℕ) (kind : TokenKind) → CarriedFits texts (carried_by kind) → ((x : Float) → kind ≡ FloatLiteral x → T (fits binary64 x)) → Read texts r kind
read texts r (Comment t) f g = record { kind_read = refl; text_read = refl }
read texts r (Directive t) f g = record { kind_read = refl; text_read = refl }
read texts r (Parameter t) f g = record { kind_read = refl; text_read = refl }
read texts r (Register x) f g = record { kind_read = ap Register (register_read x); text_read = refl }
read texts r (FPRegister x) f g = record { kind_read = ap FPRegister (fp_register_read x); text_read = refl }
read texts r (IntegerLiteral n) f g = record { kind_read = ap IntegerLiteral (digits64 n f); text_read = refl }
read texts r (FloatLiteral x) f g = record { kind_read = ap FloatLiteral (ap (of_bits binary64) (digits64 (to_bits binary64 x) f) ∙ of_bits-to_bits binary64 x (g x refl)); text_read = refl }
read texts r (StringLiteral t) f g = record { kind_read = refl; text_read = refl }
read texts r (Symbol t) f g = record { kind_read = refl; text_read = refl }
read texts r Plus f g = record { kind_read = refl; text_read = refl }
read texts r Minus f g = record { kind_read = refl; text_read = refl }
read texts r Comma f g = record { kind_read = refl; text_read = refl }
read texts r Colon f g = record { kind_read = refl; text_read = refl }
read texts r NewLine f g = record { kind_read = refl; text_read = refl }
read texts r LeftBrace f g = record { kind_read = refl; text_read = refl }
read texts r RightBrace f g = record { kind_read = refl; text_read = refl }

module _ (texts : List ℕ) (token : Token) (fit : TokenFits texts token) (r : List ℕ) where
  abbrev carries : Carried
  carries = carried_by token.kind

  abbrev payload : List ℕ
  payload = carried_bytes texts carries

  abbrev s : List ℕ
  s = token_bytes texts token ++ r

  size : length payload ≡ carried_size carries
  size = carried_length texts carries fit.carried_fits

  body_is : body_len s 0 ≡ 8 + length payload
  body_is =
      let m = carried_most texts carries fit.carried_fits in
      let small : length (location_bytes token.location ++ payload) < 2 ^ 16 = omega (arith, size) in
      omega (arith, digits16 (length (location_bytes token.location ++ payload)) small)

  pub next_is : next s 0 ≡ length (token_bytes texts token)
  next_is = omega (arith, body_is)

  pub whole_first : whole s 0 ≡ true
  whole_first = is_whole s 0 (omega arith) (omega (arith, next_is, length-append (token_bytes texts token) r))

  kind_is : kind_at s 0 ≡ strip token.kind
  kind_is = digits16 (strip token.kind) (omega (arith, strip_lt token.kind))

  len_is : payload_len s 0 ≡ carried_size carries
  len_is = omega (arith, body_is, size)

  text_is : text_of s 0 ≡ payload
  text_is = ap (λ (k : ℕ). take k (payload ++ r)) (len_is ∙ sym size) ∙ take-append_seam payload r

  pub first_passes : token_ok s 0 ≡ true
  unfolding token_ok
  first_passes =
      both whole_first
      (both (le-leb 8 (body_len s 0) (omega (arith, body_is)))
      (ap (λ (k : ℕ). payload_ok (payload_of k) s 0) kind_is
      ∙ ap (λ (p : Payload). payload_ok p s 0) (sort_is token.kind)
      ∙ ok_by_lem (sort_of carries) s 0
      ∙ ap₂ (λ (n : ℕ) (t : List ℕ). ok_by (sort_of carries) n (byte_at s 12) t) len_is text_is
      ∙ carried_ok texts r carries fit.carried_fits))

  pub first_read : meant s (token_at s 0) ≡ meant texts token
  first_read =
      let b = byte_at s 12 in
      let m = le64 s 12 in
      let e = read texts r token.kind fit.carried_fits fit.float_fits in
      meant_by_lem s 0
      ∙ ap₂ (λ (x : Location) (k : ℕ). meant_by x k (payload_len s 0) b m (text_of s 0)) (location_digits token.location fit.location_fits) kind_is
      ∙ ap₂ (λ (n : ℕ) (t : List ℕ). meant_by token.location (strip token.kind) n b m t) len_is text_is
      ∙ ap₂ (λ (k : TokenKind) (t : List ℕ). record { location = token.location; kind = k; text = t }) e.kind_read e.text_read
