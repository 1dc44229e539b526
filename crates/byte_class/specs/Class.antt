-- The class of a byte (document 02, P7). Assumes nothing.
use Rattle.std.specs.Prelude.{ℕ, Bool, true, false, ◌&&◌, ◌||◌, List, [], ◌∷◌, leb, eqb}
use Prim.Native.Char.{Char, code}
use Rattle.byte_class.specs.declared.Class.{Class}
use Rattle.byte_class.specs.declared.Class.TheVariants.{Blank, Newline, Digit, Letter, Mark, Nothing}
use Rattle.byte_class.specs.declared.Mark.{Mark as MarkKind}
use Rattle.byte_class.specs.declared.Mark.TheVariants.{Comment, Directive, Parameter, Register, StringLiteral, Plus, Minus, Comma, Colon, LeftBrace, RightBrace}

abbrev pub is : Char → ℕ → Bool
is c b = eqb b (code c)

abbrev pub between : Char → Char → ℕ → Bool
between c d b = leb (code c) b && leb b (code d)

-- "blank (space, tab, carriage return)"
unfoldable pub is_blank : ℕ → Bool
is_blank b = is " " b || is "\t" b || is "\r" b

-- "letter (with underscore)"
unfoldable pub is_letter : ℕ → Bool
is_letter b = between "A" "Z" b || between "a" "z" b || is "_" b

unfoldable pub is_digit : ℕ → Bool
is_digit b = between "0" "9" b

-- for a chain of tests: the first that passes gives the class; if none does, the last class counts
abbrev pub or_else : Bool → Class → Class → Class
or_else true k later = k
or_else false k later = later

pub record Marked : Type 0 where
  pub character : Char
  pub mark : MarkKind

abbrev by : Char → MarkKind → Marked
by c m = record { character = c; mark = m }

-- "Marks are `#` comment to line end, `.` directive, `%` parameter, `$` register, `"` string without escapes, `+`, `-`, `,`, `:`, `(`, `)`."
abbrev pub marks : List Marked
marks =
    by "#" Comment ∷ by "." Directive ∷ by "%" Parameter ∷ by "$" Register ∷ by "\"" StringLiteral
    ∷ by "+" Plus ∷ by "-" Minus ∷ by "," Comma ∷ by ":" Colon ∷ by "(" LeftBrace ∷ by ")" RightBrace ∷ []

unfoldable pub mark_in : ℕ → List Marked → Class
mark_in b [] = Nothing
mark_in b (m ∷ ms) = or_else (is m.character b) (Mark m.mark) (mark_in b ms)

-- "each byte's class: blank (space, tab, carriage return), newline, digit, letter (with underscore), a mark, or none"
unfoldable pub class_of : ℕ → Class
unfolding is_blank is_letter is_digit mark_in
class_of b = or_else (is_blank b) Blank (or_else (is "\n" b) Newline (or_else (is_digit b) Digit (or_else (is_letter b) Letter (mark_in b marks))))

-- "go on with letters and digits"
abbrev pub is_word : Class → Bool
is_word Blank = false
is_word Newline = false
is_word Digit = true
is_word Letter = true
is_word (Mark m) = false
is_word Nothing = false

abbrev pub word_byte : ℕ → Bool
word_byte b = is_word (class_of b)

-- whether a class is "blank (space, tab, carriage return)"
abbrev pub is_blank_class : Class → Bool
is_blank_class Blank = true
is_blank_class Newline = false
is_blank_class Digit = false
is_blank_class Letter = false
is_blank_class (Mark m) = false
is_blank_class Nothing = false

abbrev pub blank_byte : ℕ → Bool
blank_byte b = is_blank_class (class_of b)
