-- What a token means, wherever its text is: its location, its kind and its text's bytes. Assumes nothing.
use Rattle.std.specs.Prelude.{ℕ, List, []}
use Rattle.record.specs.declared.Location.{Location}
use Rattle.lexer.specs.declared.Text.{Text as TextPlace}
use Rattle.lexer.specs.declared.Token.{Token}
use Rattle.lexer.specs.declared.TokenKind.{TokenKind}
use Rattle.lexer.specs.declared.TokenKind.TheVariants.{Comment, Directive, Parameter, Register, FPRegister, IntegerLiteral, FloatLiteral, StringLiteral, Symbol, Plus, Minus, Comma, Colon, NewLine, LeftBrace, RightBrace}
use Rattle.token_bytes.specs.declared.Carried.{Carried}
use Rattle.token_bytes.specs.declared.Carried.TheVariants.{Text, Slot, Number, Name, Nothing}
use Rattle.token_bytes.specs.TokenBytes.{carried_by, text_bytes}

-- a text's length, without its place
abbrev pub unplaced : TextPlace → TextPlace
unplaced t = record { start = 0; len = t.len }

abbrev pub kind_meant : TokenKind → TokenKind
kind_meant (Comment t) = Comment (unplaced t)
kind_meant (Directive t) = Directive (unplaced t)
kind_meant (Parameter t) = Parameter (unplaced t)
kind_meant (Register r) = Register r
kind_meant (FPRegister r) = FPRegister r
kind_meant (IntegerLiteral n) = IntegerLiteral n
kind_meant (FloatLiteral x) = FloatLiteral x
kind_meant (StringLiteral t) = StringLiteral (unplaced t)
kind_meant (Symbol t) = Symbol (unplaced t)
kind_meant Plus = Plus
kind_meant Minus = Minus
kind_meant Comma = Comma
kind_meant Colon = Colon
kind_meant NewLine = NewLine
kind_meant LeftBrace = LeftBrace
kind_meant RightBrace = RightBrace

-- the bytes of the text that a token carries; none if it carries no text
abbrev pub text_carried : (texts : List ℕ) → Carried → List ℕ
text_carried texts (Text t) = text_bytes texts t
text_carried texts (Slot n) = []
text_carried texts (Number n) = []
text_carried texts (Name t) = text_bytes texts t
text_carried texts Nothing = []

pub record Meant : Type 0 where
  pub location : Location
  pub kind : TokenKind
  pub text : List ℕ

-- what a token means; its text is in `texts`
abbrev pub meant : (texts : List ℕ) → Token → Meant
meant texts t = record { location = t.location; kind = kind_meant t.kind; text = text_carried texts (carried_by t.kind) }
