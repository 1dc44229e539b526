-- What is at a place of a text (document 02, P7). Assumes nothing.
use Rattle.std.specs.Prelude.{ℕ, ◌+◌, List, [], ◌∷◌, Bool, true, false, not, ◌&&◌, ◌||◌, length, drop, leb, eqb, Option, Some, None}
use Rattle.record.specs.Bytes.{byte_at, is_text, all}
use Rattle.lexer.specs.declared.Text.{Text}
use Rattle.lexer.specs.declared.TokenKind.{TokenKind}
use Rattle.lexer.specs.declared.TokenKind.TheVariants.{Comment, Directive, Parameter, Register, FPRegister, IntegerLiteral, StringLiteral, Symbol, Plus, Minus, Comma, Colon, NewLine, LeftBrace, RightBrace}
use Rattle.byte_class.specs.Class.{is, class_of, word_byte}
use Rattle.byte_class.specs.declared.Class.{Class}
use Rattle.byte_class.specs.declared.Class.TheVariants.{Blank as BlankClass, Newline, Digit, Letter, Mark, Nothing}
use Rattle.byte_class.specs.declared.Mark.{Mark as MarkKind}
use Rattle.byte_class.specs.declared.Mark.TheVariants.{Comment as CommentMark, Directive as DirectiveMark, Parameter as ParameterMark, Register as RegisterMark, StringLiteral as StringMark, Plus as PlusMark, Minus as MinusMark, Comma as CommaMark, Colon as ColonMark, LeftBrace as LeftBraceMark, RightBrace as RightBraceMark}
use Rattle.register_names.specs.RegisterNames.{register_named}
use Rattle.register_names.specs.declared.NamedRegister.{NamedRegister}
use Rattle.register_names.specs.declared.NamedRegister.TheVariants.{General, Float}
use Rattle.text_pieces.specs.Leading.{leading}
use Rattle.text_pieces.specs.Numbers.{number_in}
use Rattle.text_pieces.specs.declared.Piece.{Piece}
use Rattle.text_pieces.specs.declared.Piece.TheVariants.{Blank, Token, BadByte, BadToken}

-- ---- texts
-- A token of `size` bytes with this text, which starts at `start`: "a text byte outside 0x20 to 0x7E" is 21, "a text over 64 bytes" is 22,
-- "21 before 22".
unfoldable pub text_piece : (Text → TokenKind) → (start : ℕ) → (text : List ℕ) → (size : ℕ) → Piece
unfolding all
text_piece kind start text size =
    elim (all is_text text) [
      | true ↦ elim (leb (length text) 64) [ true ↦ Token (kind (record { start = start; len = length text })) size | false ↦ BadToken ]
      | false ↦ BadByte
    ]

-- "a symbol starts with a letter, and it, a directive, a parameter and a register go on with letters and digits"
abbrev pub word_at : List ℕ → ℕ → List ℕ
word_at s at = leading word_byte (drop at s)

unfoldable pub symbol_at : List ℕ → ℕ → Piece
unfolding text_piece leading
symbol_at s at = let text = word_at s at in text_piece Symbol at text (length text)

-- "Texts leave their marks out."
unfoldable pub directive_at : List ℕ → ℕ → Piece
unfolding text_piece leading
directive_at s at = let text = word_at s (at + 1) in text_piece Directive (at + 1) text (length text + 1)

-- "a parameter without a name" is 22
abbrev pub if_any : List ℕ → Piece → Piece
if_any [] piece = BadToken
if_any (b ∷ bs) piece = piece

unfoldable pub parameter_at : List ℕ → ℕ → Piece
unfolding text_piece leading
parameter_at s at = let text = word_at s (at + 1) in if_any text (text_piece Parameter (at + 1) text (length text + 1))

-- "`#` comment to line end"
unfoldable pub comment_at : List ℕ → ℕ → Piece
unfolding text_piece leading
comment_at s at = let text = leading (λ b. not (is "\n" b)) (drop (at + 1) s) in text_piece Comment (at + 1) text (length text + 1)

-- "`\"` string without escapes"; "a string not closed on its line" is 21
unfoldable pub string_at : List ℕ → ℕ → Piece
unfolding text_piece leading
string_at s at =
    let text = leading (λ b. not (is "\"" b || is "\n" b)) (drop (at + 1) s) in
    elim (is "\"" (byte_at s (at + 1 + length text))) [ true ↦ text_piece StringLiteral (at + 1) text (length text + 2) | false ↦ BadByte ]

-- ---- registers and numbers
-- "an unknown register" is 22
abbrev pub register_piece : Option NamedRegister → (size : ℕ) → Piece
register_piece (Some (General r)) size = Token (Register r) size
register_piece (Some (Float r)) size = Token (FPRegister r) size
register_piece None size = BadToken

unfoldable pub register_at : List ℕ → ℕ → Piece
unfolding register_named leading
register_at s at = let name = word_at s (at + 1) in register_piece (register_named name) (length name + 1)

-- "a number over 64 bits" is 22
abbrev pub decimal_piece : Option (ℕ × ℕ) → Piece
decimal_piece (Some (v, n)) = Token (IntegerLiteral v) n
decimal_piece None = BadToken

-- "or `0x` without a digit"
abbrev pub hexadecimal_piece : Option (ℕ × ℕ) → Piece
hexadecimal_piece (Some (v, n)) = elim (eqb n 0) [ true ↦ BadToken | false ↦ Token (IntegerLiteral v) (n + 2) ]
hexadecimal_piece None = BadToken

-- "decimal, or hexadecimal (either case) after `0x`"
abbrev pub starts_hexadecimal : List ℕ → ℕ → Bool
starts_hexadecimal s at = is "0" (byte_at s at) && is "x" (byte_at s (at + 1))

unfoldable pub number_at : List ℕ → ℕ → Piece
unfolding number_in
number_at s at =
    elim (starts_hexadecimal s at) [ true ↦ hexadecimal_piece (number_in 16 (drop (at + 2) s)) | false ↦ decimal_piece (number_in 10 (drop at s)) ]

-- ---- by the class of the first byte
abbrev pub mark_at : MarkKind → List ℕ → ℕ → Piece
mark_at CommentMark s at = comment_at s at
mark_at DirectiveMark s at = directive_at s at
mark_at ParameterMark s at = parameter_at s at
mark_at RegisterMark s at = register_at s at
mark_at StringMark s at = string_at s at
mark_at PlusMark s at = Token Plus 1
mark_at MinusMark s at = Token Minus 1
mark_at CommaMark s at = Token Comma 1
mark_at ColonMark s at = Token Colon 1
mark_at LeftBraceMark s at = Token LeftBrace 1
mark_at RightBraceMark s at = Token RightBrace 1

-- "a byte that starts no token" is 21
abbrev pub piece_of : Class → List ℕ → ℕ → Piece
piece_of BlankClass s at = Blank
piece_of Newline s at = Token NewLine 1
piece_of Digit s at = number_at s at
piece_of Letter s at = symbol_at s at
piece_of (Mark m) s at = mark_at m s at
piece_of Nothing s at = BadByte

unfoldable pub piece_at : List ℕ → ℕ → Piece
unfolding class_of number_at symbol_at comment_at directive_at parameter_at register_at string_at
piece_at s at = piece_of (class_of (byte_at s at)) s at

-- the text or the line ends at `at`
abbrev pub line_ends : List ℕ → ℕ → Bool
line_ends s at = leb (length s) at || is "\n" (byte_at s at)
