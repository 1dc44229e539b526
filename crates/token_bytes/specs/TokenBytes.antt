-- A token record as bytes, the reverse of `token_at` (document 01, 'Tokens'). Assumes nothing.
use Rattle.std.specs.Prelude.{ℕ, ◌+◌, ◌^◌, ◌≤◌, ◌<◌, List, [], ◌∷◌, ◌++◌, true, ◌≡◌, length, T, Float}
use Rattle.std.specs.Float.{binary64}
use Rattle.std.specs.Float.Ieee.{to_bits, fits}
use Rattle.record.specs.Bytes.{part, is_text, all}
use Rattle.record.specs.Stores.{le64_bytes, location_bytes, record_bytes, LocationFits}
use Rattle.registers.specs.Numbers.{register_number, fp_register_number}
use Rattle.lexer.specs.Tokens.{strip}
use Rattle.lexer.specs.declared.Text.{Text as TextPlace}
use Rattle.lexer.specs.declared.Token.{Token}
use Rattle.lexer.specs.declared.TokenKind.{TokenKind}
use Rattle.lexer.specs.declared.TokenKind.TheVariants.{Comment, Directive, Parameter, Register, FPRegister, IntegerLiteral, FloatLiteral, StringLiteral, Symbol, Plus, Minus, Comma, Colon, NewLine, LeftBrace, RightBrace}
use Rattle.token_bytes.specs.declared.Carried.{Carried}
use Rattle.token_bytes.specs.declared.Carried.TheVariants.{Text, Slot, Number, Name, Nothing}

-- "Registers carry one byte, 0 to 31; IntegerLiteral carries eight; FloatLiteral carries eight bytes, the bits of an f64; the four texts
-- carry 0 to 64 bytes; Symbol carries 1 to 64; the rest none."
abbrev pub carried_by : TokenKind → Carried
carried_by (Comment t) = Text t
carried_by (Directive t) = Text t
carried_by (Parameter t) = Text t
carried_by (Register r) = Slot (register_number r)
carried_by (FPRegister r) = Slot (fp_register_number r)
carried_by (IntegerLiteral n) = Number n
carried_by (FloatLiteral x) = Number (to_bits binary64 x)
carried_by (StringLiteral t) = Text t
carried_by (Symbol t) = Name t
carried_by Plus = Nothing
carried_by Minus = Nothing
carried_by Comma = Nothing
carried_by Colon = Nothing
carried_by NewLine = Nothing
carried_by LeftBrace = Nothing
carried_by RightBrace = Nothing

-- the bytes of a text, which are a part of `texts`
abbrev pub text_bytes : (texts : List ℕ) → TextPlace → List ℕ
text_bytes texts t = part texts t.start t.len

abbrev pub carried_bytes : (texts : List ℕ) → Carried → List ℕ
carried_bytes texts (Text t) = text_bytes texts t
carried_bytes texts (Slot n) = n ∷ []
carried_bytes texts (Number n) = le64_bytes n
carried_bytes texts (Name t) = text_bytes texts t
carried_bytes texts Nothing = []

-- "The body is a location, then a payload."
abbrev pub token_bytes : (texts : List ℕ) → Token → List ℕ
token_bytes texts token = record_bytes (strip token.kind) (location_bytes token.location ++ carried_bytes texts (carried_by token.kind))

-- ---- a token that its record can hold
pub record TextFits (texts : List ℕ) (t : TextPlace) : Type 0 where
  pub within : t.start + t.len ≤ length texts
  pub most : t.len ≤ 64
  pub text : all is_text (text_bytes texts t) ≡ true

abbrev pub CarriedFits : (texts : List ℕ) → Carried → Type 0
CarriedFits texts (Text t) = TextFits texts t
CarriedFits texts (Slot n) = n ≤ 31
CarriedFits texts (Number n) = n < 2 ^ 64
CarriedFits texts (Name t) = TextFits texts t × (1 ≤ t.len)
CarriedFits texts Nothing = Unit {0}

pub record TokenFits (texts : List ℕ) (token : Token) : Type 0 where
  pub location_fits : LocationFits token.location
  pub carried_fits : CarriedFits texts (carried_by token.kind)
  pub float_fits : (x : Float) → token.kind ≡ FloatLiteral x → T (fits binary64 x)

-- how many bytes the payload has
abbrev pub carried_size : Carried → ℕ
carried_size (Text t) = t.len
carried_size (Slot n) = 1
carried_size (Number n) = 8
carried_size (Name t) = t.len
carried_size Nothing = 0
