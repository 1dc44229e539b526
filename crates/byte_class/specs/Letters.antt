-- The letter that stands for a class in the table of classes. Assumes nothing.
use Rattle.std.specs.Prelude.{ℕ, zero, suc, List, [], ◌∷◌}
use Prim.Native.Char.{code}
use Rattle.byte_class.specs.Class.{class_of}
use Rattle.byte_class.specs.declared.Class.{Class}
use Rattle.byte_class.specs.declared.Class.TheVariants.{Blank, Newline, Digit, Letter, Mark, Nothing}
use Rattle.byte_class.specs.declared.Mark.{Mark as MarkKind}
use Rattle.byte_class.specs.declared.Mark.TheVariants.{Comment, Directive, Parameter, Register, StringLiteral, Plus, Minus, Comma, Colon, LeftBrace, RightBrace}

abbrev pub mark_letter : MarkKind → ℕ
mark_letter Comment = code "#"
mark_letter Directive = code "."
mark_letter Parameter = code "%"
mark_letter Register = code "$"
mark_letter StringLiteral = code "\""
mark_letter Plus = code "+"
mark_letter Minus = code "-"
mark_letter Comma = code ","
mark_letter Colon = code ":"
mark_letter LeftBrace = code "("
mark_letter RightBrace = code ")"

abbrev pub letter_of : Class → ℕ
letter_of Blank = code "b"
letter_of Newline = code "n"
letter_of Digit = code "0"
letter_of Letter = code "a"
letter_of (Mark m) = mark_letter m
letter_of Nothing = code "~"

-- f i, f (i + 1), ..: n of them
abbrev pub values_from : {A : Type 0} → (ℕ → A) → ℕ → ℕ → List A
values_from f i zero = []
values_from f i (suc n) = f i ∷ values_from f (suc i) n

-- "a table of 256 entries gives each byte's class"
unfoldable pub letters : List ℕ
unfolding class_of
letters = values_from (λ (b : ℕ). letter_of (class_of b)) 0 256
