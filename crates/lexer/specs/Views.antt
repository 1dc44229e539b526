-- The value of a token, for readers that ask for one kind. Assumes nothing.
use Rattle.std.specs.Prelude.{None, Option, Some, ℕ}
use Rattle.lexer.specs.declared.TokenKind.{TokenKind}
use Rattle.lexer.specs.declared.TokenKind.TheVariants.{Comment, Directive, Parameter, Register, FPRegister, IntegerLiteral, FloatLiteral, StringLiteral, Symbol, Plus, Minus, Comma, Colon, NewLine, LeftBrace, RightBrace}
use Rattle.lexer.specs.declared.Text.{Text}
use Rattle.registers.specs.declared.FPRegisterSlot.{FPRegisterSlot}
use Rattle.registers.specs.declared.RegisterSlot.{RegisterSlot}

abbrev pub as_register : TokenKind → Option RegisterSlot
as_register (Comment t) = None
as_register (Directive t) = None
as_register (Parameter t) = None
as_register (Register r) = Some r
as_register (FPRegister r) = None
as_register (IntegerLiteral n) = None
as_register (FloatLiteral x) = None
as_register (StringLiteral t) = None
as_register (Symbol t) = None
as_register Plus = None
as_register Minus = None
as_register Comma = None
as_register Colon = None
as_register NewLine = None
as_register LeftBrace = None
as_register RightBrace = None

abbrev pub as_fp_register : TokenKind → Option FPRegisterSlot
as_fp_register (Comment t) = None
as_fp_register (Directive t) = None
as_fp_register (Parameter t) = None
as_fp_register (Register r) = None
as_fp_register (FPRegister r) = Some r
as_fp_register (IntegerLiteral n) = None
as_fp_register (FloatLiteral x) = None
as_fp_register (StringLiteral t) = None
as_fp_register (Symbol t) = None
as_fp_register Plus = None
as_fp_register Minus = None
as_fp_register Comma = None
as_fp_register Colon = None
as_fp_register NewLine = None
as_fp_register LeftBrace = None
as_fp_register RightBrace = None

abbrev pub as_integer : TokenKind → Option ℕ
as_integer (Comment t) = None
as_integer (Directive t) = None
as_integer (Parameter t) = None
as_integer (Register r) = None
as_integer (FPRegister r) = None
as_integer (IntegerLiteral n) = Some n
as_integer (FloatLiteral x) = None
as_integer (StringLiteral t) = None
as_integer (Symbol t) = None
as_integer Plus = None
as_integer Minus = None
as_integer Comma = None
as_integer Colon = None
as_integer NewLine = None
as_integer LeftBrace = None
as_integer RightBrace = None

abbrev pub as_symbol : TokenKind → Option Text
as_symbol (Comment t) = None
as_symbol (Directive t) = None
as_symbol (Parameter t) = None
as_symbol (Register r) = None
as_symbol (FPRegister r) = None
as_symbol (IntegerLiteral n) = None
as_symbol (FloatLiteral x) = None
as_symbol (StringLiteral t) = None
as_symbol (Symbol t) = Some t
as_symbol Plus = None
as_symbol Minus = None
as_symbol Comma = None
as_symbol Colon = None
as_symbol NewLine = None
as_symbol LeftBrace = None
as_symbol RightBrace = None
