-- Token records, kinds 0 to 15 (document 01, 'Tokens'). Assumes nothing.
use Rattle.std.specs.Prelude.{ℕ, ◌+◌, ◌-◌, ◌≤◌, List, [], ◌∷◌, map, Bool, true, false, ◌&&◌, ◌≡◌, length, get_or, leb, eqb, Option}
use Rattle.std.specs.Float.Ieee.{of_bits}
use Rattle.std.specs.Float.{binary64}
use Rattle.record.specs.Bytes.{byte_at, le64, location_at, part, is_text, all}
use Rattle.record.specs.Records.{body_len, kind_at, next, whole, places, first_bad, within_limit}
use Rattle.registers.specs.Slots.{register_of, fp_register_of}
use Rattle.lexer.specs.declared.Payload.{Payload}
use Rattle.lexer.specs.declared.Payload.TheVariants.{Text, Slot, Number, Name, Nothing, Unknown}
use Rattle.lexer.specs.declared.Text.{Text as TextPlace}
use Rattle.lexer.specs.declared.Token.{Token}
use Rattle.lexer.specs.declared.TokenKind.{TokenKind}
use Rattle.lexer.specs.declared.TokenKind.TheVariants.{Comment, Directive, Parameter, Register, FPRegister, IntegerLiteral, FloatLiteral, StringLiteral, Symbol, Plus, Minus, Comma, Colon, NewLine, LeftBrace, RightBrace}

-- "Kinds 0 to 15 follow `StrippedKind`": Comment, Directive, Parameter; Register, FPRegister; IntegerLiteral, FloatLiteral; StringLiteral;
-- Symbol; and seven without a payload
abbrev pub payloads : List Payload
payloads = Text ∷ Text ∷ Text ∷ Slot ∷ Slot ∷ Number ∷ Number ∷ Text ∷ Name ∷ Nothing ∷ Nothing ∷ Nothing ∷ Nothing ∷ Nothing ∷ Nothing ∷ Nothing ∷ []

unfoldable pub payload_of : ℕ → Payload
payload_of kind = get_or payloads kind Unknown

-- "The body is a location, then a payload."
abbrev pub payload_len : List ℕ → ℕ → ℕ
payload_len s at = body_len s at - 8

abbrev pub text_of : List ℕ → ℕ → List ℕ
text_of s at = part s (at + 12) (payload_len s at)

-- "Registers carry one byte, 0 to 31; IntegerLiteral carries eight; FloatLiteral carries eight bytes, the bits of an f64; the four texts
-- carry 0 to 64 bytes; Symbol carries 1 to 64; the rest none."
unfoldable pub payload_ok : Payload → List ℕ → ℕ → Bool
unfolding all
payload_ok Text s at = leb (payload_len s at) 64 && all is_text (text_of s at)
payload_ok Slot s at = eqb (payload_len s at) 1 && leb (byte_at s (at + 12)) 31
payload_ok Number s at = eqb (payload_len s at) 8
payload_ok Name s at = leb 1 (payload_len s at) && leb (payload_len s at) 64 && all is_text (text_of s at)
payload_ok Nothing s at = eqb (payload_len s at) 0
payload_ok Unknown s at = false

unfoldable pub token_ok : List ℕ → ℕ → Bool
unfolding payload_of payload_ok
token_ok s at = whole s at && (leb 8 (body_len s at) && payload_ok (payload_of (kind_at s at)) s at)

-- what reading the record at `at` requires: the record is whole, and its body is as long as its kind needs
pub record TokenIs (s : List ℕ) (at : ℕ) : Type 0 where
  pub whole_at : whole s at ≡ true
  pub head : at + 4 ≤ length s
  pub body : next s at ≤ length s
  pub least : 8 ≤ body_len s at
  -- a register has its byte, a number its eight
  pub slot : (3 ≤ kind_at s at) → (kind_at s at ≤ 4) → 9 ≤ body_len s at
  pub number : (5 ≤ kind_at s at) → (kind_at s at ≤ 6) → 16 ≤ body_len s at

unfoldable pub token_layout : List ℕ → Option ℕ
unfolding token_ok first_bad places within_limit
token_layout s = within_limit s (first_bad (token_ok s) (places s))

-- the record at `at` read as each of the sixteen kinds, in order
abbrev pub text_at : List ℕ → ℕ → TextPlace
text_at s at = record { start = at + 12; len = payload_len s at }

abbrev pub kinds_at : List ℕ → ℕ → List TokenKind
kinds_at s at =
    Comment (text_at s at) ∷ Directive (text_at s at) ∷ Parameter (text_at s at) ∷ Register (register_of (byte_at s (at + 12))) ∷ FPRegister (fp_register_of (byte_at s (at + 12)))
    ∷ IntegerLiteral (le64 s (at + 12)) ∷ FloatLiteral (of_bits binary64 (le64 s (at + 12))) ∷ StringLiteral (text_at s at) ∷ Symbol (text_at s at)
    ∷ Plus ∷ Minus ∷ Comma ∷ Colon ∷ NewLine ∷ LeftBrace ∷ RightBrace ∷ []

-- the token of the record at `at`
abbrev pub token_at : List ℕ → ℕ → Token
token_at s at = record { location = location_at s (at + 4); kind = get_or (kinds_at s at) (kind_at s at) NewLine }

-- the decoded token list
unfoldable pub tokens : List ℕ → List Token
unfolding places
tokens s = map (token_at s) (places s)

-- a token kind's number, as in `StrippedKind`
abbrev pub strip : TokenKind → ℕ
strip (Comment t) = 0
strip (Directive t) = 1
strip (Parameter t) = 2
strip (Register r) = 3
strip (FPRegister r) = 4
strip (IntegerLiteral n) = 5
strip (FloatLiteral x) = 6
strip (StringLiteral t) = 7
strip (Symbol t) = 8
strip Plus = 9
strip Minus = 10
strip Comma = 11
strip Colon = 12
strip NewLine = 13
strip LeftBrace = 14
strip RightBrace = 15
