-- Each class has a letter of its own, which gives the class back. Assumes nothing.
use Rattle.std.specs.Prelude.{ℕ, true, false, List, [], ◌∷◌, ◌≡◌, refl, eqb}
use Rattle.std.proofs.Common.{sym, ap, ◌∙◌, ne_eqb}
use Rattle.byte_class.specs.declared.Class.{Class}
use Rattle.byte_class.specs.declared.Class.TheVariants.{Blank, Newline, Digit, Letter, Mark, Nothing}
use Rattle.byte_class.specs.declared.Mark.{Mark as MarkKind}
use Rattle.byte_class.specs.declared.Mark.TheVariants.{Comment, Directive, Parameter, Register, StringLiteral, Plus, Minus, Comma, Colon, LeftBrace, RightBrace}
use Rattle.byte_class.specs.Class.{is_word, is_blank_class}
use Rattle.byte_class.specs.Letters.{letter_of}

-- the first of these classes that has this letter, or else Nothing
unfoldable pub among : ℕ → List Class → Class
among n [] = Nothing
among n (k ∷ ks) = elim (eqb n (letter_of k)) [ true ↦ k | false ↦ among n ks ]

-- the classes in the arms of `class_of`, the last arm first
abbrev pub classes : List Class
classes =
    Mark RightBrace ∷ Mark LeftBrace ∷ Mark Colon ∷ Mark Comma ∷ Mark Minus ∷ Mark Plus ∷ Mark StringLiteral ∷ Mark Register ∷ Mark Parameter ∷ Mark Directive
    ∷ Mark Comment ∷ Letter ∷ Digit ∷ Newline ∷ Blank ∷ []

unfoldable pub of_letter : ℕ → Class
unfolding among
of_letter n = among n classes

mark_back : (m : MarkKind) → of_letter (letter_of (Mark m)) ≡ Mark m
unfolding of_letter
mark_back Comment = refl
mark_back Directive = refl
mark_back Parameter = refl
mark_back Register = refl
mark_back StringLiteral = refl
mark_back Plus = refl
mark_back Minus = refl
mark_back Comma = refl
mark_back Colon = refl
mark_back LeftBrace = refl
mark_back RightBrace = refl

back : (k : Class) → of_letter (letter_of k) ≡ k
unfolding of_letter
back Blank = refl
back Newline = refl
back Digit = refl
back Letter = refl
back (Mark m) = mark_back m
back Nothing = refl

-- Classes with the same letter are the same.
pub same_letter : (met k : Class) (n : ℕ) → n ≡ letter_of k → n ≡ letter_of met → met ≡ k
same_letter met k n e f = sym (back met) ∙ ap of_letter (sym f ∙ e) ∙ back k

-- The letter belongs to none of these classes, as in the last arm of a `match`.
abbrev pub NoneOf : ℕ → List Class → Type 0
NoneOf n [] = Unit {0}
NoneOf n (k ∷ ks) = NoneOf n ks × (n ≡ letter_of k → ⊥)

none_of : (n : ℕ) (ks : List Class) → NoneOf n ks → among n ks ≡ Nothing
unfolding among
none_of n [] h = refl
none_of n (k ∷ ks) h = rw (ne_eqb n (letter_of k) h.1, among) (none_of n ks h.0)

pub none_met : (k : Class) (n : ℕ) → n ≡ letter_of k → NoneOf n classes → Nothing ≡ k
unfolding of_letter
none_met k n e h = sym (none_of n classes h) ∙ ap of_letter e ∙ back k

-- If the letter is neither Digit's nor Letter's, its class is neither digit nor letter.
pub no_word : (k : Class) (n : ℕ) → n ≡ letter_of k → NoneOf n (Digit ∷ Letter ∷ []) → false ≡ is_word k
no_word Blank n e h = refl
no_word Newline n e h = refl
no_word Digit n e h = absurd (h.1 e)
no_word Letter n e h = absurd (h.0.1 e)
no_word (Mark m) n e h = refl
no_word Nothing n e h = refl

-- If the letter is not Blank's, its class is no blank.
pub no_blank : (k : Class) (n : ℕ) → n ≡ letter_of k → NoneOf n (Blank ∷ []) → false ≡ is_blank_class k
no_blank Blank n e h = absurd (h.1 e)
no_blank Newline n e h = refl
no_blank Digit n e h = refl
no_blank Letter n e h = refl
no_blank (Mark m) n e h = refl
no_blank Nothing n e h = refl
