-- A letter or a digit is a byte that a text may have, and it is no blank. Assumes nothing.
use Rattle.std.specs.Prelude.{ℕ, ◌≤◌, Bool, true, false, List, [], ◌∷◌, ◌⊎◌, ◌≡◌, refl, leb}
use Prim.Native.Char.{Char, code}
use Rattle.std.proofs.Common.{arith, inl, inr, ⊎_elim, sym, ap, ◌∙◌, leb-true, eqb-true}
use Rattle.std.proofs.Math.Bool.{and-eq-true_iff}
use Rattle.std.proofs.lemmas.Bool.{false≢true}
use Rattle.byte_class.specs.declared.Class.{Class}
use Rattle.byte_class.specs.declared.Class.TheVariants.{Blank, Newline, Digit, Letter, Mark}
use Rattle.byte_class.specs.Class.{between, is, or_else, is_blank, is_letter, is_digit, Marked, marks, mark_in, class_of, is_word, word_byte}

range : (c d : Char) (b : ℕ) → between c d b ≡ true → (code c ≤ b) × (b ≤ code d)
range c d b e =
    let h = (and-eq-true_iff (leb (code c) b) (leb b (code d))).0 e in
    (leb-true (code c) b h.0, leb-true b (code d) h.1)

digit_range : (b : ℕ) → is_digit b ≡ true → (48 ≤ b) × (b ≤ 57)
unfolding is_digit
digit_range b e = range "0" "9" b e

letter_range : (b : ℕ) → is_letter b ≡ true → (65 ≤ b) × (b ≤ 122)
unfolding is_letter
letter_range b e = go (between "A" "Z" b) refl (between "a" "z" b) refl
  where
    go : (u : Bool) → between "A" "Z" b ≡ u → (v : Bool) → between "a" "z" b ≡ v → (65 ≤ b) × (b ≤ 122)
    go true p v q = let h = range "A" "Z" b p in (omega arith, omega arith)
    go false p true q = let h = range "a" "z" b q in (omega arith, omega arith)
    go false p false q = let h = eqb-true b 95 (rw (p, q) at e) in (omega arith, omega arith)

no_mark : (b : ℕ) (ms : List Marked) → is_word (mark_in b ms) ≡ false
unfolding mark_in
no_mark b [] = refl
no_mark b (m ∷ ms) = go (is m.character b) (no_mark b ms)
  where
    go : (t : Bool) → is_word (mark_in b ms) ≡ false → is_word (or_else t (Mark m.mark) (mark_in b ms)) ≡ false
    go true ih = refl
    go false ih = ih

-- Either this test passed, or a later test gave the class.
passed : (t : Bool) (k later : Class) → is_word (or_else t k later) ≡ true → (t ≡ true) ⊎ (is_word later ≡ true)
passed true k later e = inl refl
passed false k later e = inr e

-- If this test's class is neither letter nor digit, a later test gave the class.
later_is : (t : Bool) (k later : Class) → is_word k ≡ false → is_word (or_else t k later) ≡ true → is_word later ≡ true
later_is true k later f e = absurd (false≢true (sym f ∙ e))
later_is false k later f e = e

pub word_range : (b : ℕ) → word_byte b ≡ true → (48 ≤ b) × (b ≤ 122)
unfolding class_of
word_range b e =
    let letter = or_else (is_letter b) Letter (mark_in b marks) in
    let digit = or_else (is_digit b) Digit letter in
    let w = later_is (is "\n" b) Newline digit refl (later_is (is_blank b) Blank (or_else (is "\n" b) Newline digit) refl e) in
    ⊎_elim
    (λ d. let h = digit_range b d in (omega arith, omega arith))
    (λ l.
    ⊎_elim (λ d. let h = letter_range b d in (omega arith, omega arith)) (λ m. absurd (false≢true (sym (no_mark b marks) ∙ m))) (passed (is_letter b) Letter (mark_in b marks) l))
    (passed (is_digit b) Digit letter w)

-- A byte of class Digit is one of the digits 0 to 9.
pub digit_class : (b : ℕ) → class_of b ≡ Digit → (48 ≤ b) × (b ≤ 57)
unfolding class_of
digit_class b e = digit_range b (go (is_blank b) refl (is "\n" b) refl (is_digit b) refl (is_letter b) refl)
  where
    none : {k : Class} → is_word k ≡ false → k ≡ Digit → is_digit b ≡ true
    none f g = absurd (false≢true (sym f ∙ ap is_word g))

    go : (u : Bool) → is_blank b ≡ u → (v : Bool) → is "\n" b ≡ v → (w : Bool) → is_digit b ≡ w → (x : Bool) → is_letter b ≡ x → is_digit b ≡ true
    go u p v q true r x y = r
    go true p v q false r x y = none {k = Blank} refl (rw p at e)
    go false p true q false r x y = none {k = Newline} refl (rw (p, q) at e)
    go false p false q false r true y =
        let f : Letter ≡ Digit = rw (p, q, r, y) at e in
        let z : ◌≡◌ {A = ℕ} 0 1 = cc in
        absurd (omega arith)
    go false p false q false r false y = none {k = mark_in b marks} (no_mark b marks) (rw (p, q, r, y) at e)
