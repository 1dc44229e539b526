-- What a line of a page determines: its pc and the bytes of its word, whatever its label. Assumes nothing.
use Rattle.std.specs.Prelude.{ℕ, zero, suc, ◌+◌, ◌-◌, ◌*◌, ◌/◌, ◌%◌, ◌^◌, ◌≤◌, ◌<◌, List, [], ◌∷◌, ◌++◌, Bool, true, false, ◌≡◌, refl, ltb, eqb, length, take, drop, get_or}
use Rattle.std.proofs.Common.{pow-suc, arith, sym, ap, ap₂, ◌∙◌, length-append, ext_get_or, lt-ltb, le-ltb, ltb-true, ltb-false, eqb-true}
use Rattle.std.proofs.Math.Seq.{take-append_seam, drop-append_seam}
use Rattle.std.proofs.lemmas.Bool.{eqb-false}
use Rattle.io.specs.Digits.{hex_digit_ascii, last_digits}
use Rattle.record.specs.Bytes.{le32}
use Rattle.record.specs.Texts.{bytes_of}
use Rattle.finished_words.specs.Listed.{Bytes}
use Rattle.reading.specs.Rows.{Row}
use Rattle.reading.proofs.RowsLaws.{Each, RowIs}
use Rattle.text.specs.Text.{hex_bytes, word_text}
use Rattle.text.proofs.TextLaws.{digits_length, text_length, text_part}
use Rattle.page_outcome.specs.Page.{blanks, columns, cut, region_line, word_line}
use Rattle.page_outcome.proofs.LinesLaws.{columns_length, front_length}

-- ---- two texts, each in front of another
pub front_same : (a b c d : List ℕ) → length a ≡ length b → a ++ c ≡ b ++ d → (a ≡ b) × (c ≡ d)
front_same a b c d l e = (
  sym (take-append_seam a c) ∙ ap₂ take l e ∙ take-append_seam b d,
  sym (drop-append_seam a c) ∙ ap₂ drop l e ∙ drop-append_seam b d,
)

-- ---- digits
glyph_low : (d : ℕ) → d < 10 → hex_digit_ascii d ≡ 48 + d
glyph_low d h = rw (lt-ltb d 10 h)

glyph_high : (d : ℕ) → 10 ≤ d → hex_digit_ascii d ≡ 87 + d
glyph_high d h = rw (le-ltb d 10 h)

glyph_same : (c d : ℕ) → c < 16 → d < 16 → hex_digit_ascii c ≡ hex_digit_ascii d → c ≡ d
glyph_same c d h k e = go (ltb c 10) refl (ltb d 10) refl
  where
    go : (p : Bool) → ltb c 10 ≡ p → (q : Bool) → ltb d 10 ≡ q → c ≡ d
    go true f true g = omega (arith, glyph_low c (ltb-true c 10 f), glyph_low d (ltb-true d 10 g), e)
    go true f false g = let m = ltb-true c 10 f in absurd (omega (arith, m, glyph_low c m, glyph_high d (ltb-false d 10 g), e))
    go false f true g = let m = ltb-true d 10 g in absurd (omega (arith, m, glyph_low d m, glyph_high c (ltb-false c 10 f), e))
    go false f false g = omega (arith, glyph_high c (ltb-false c 10 f), glyph_high d (ltb-false d 10 g), e)

-- A number's digits determine it, if there are enough of them.
digits_same : (k m n : ℕ) → m < 16 ^ k → n < 16 ^ k → last_digits 16 k m ≡ last_digits 16 k n → m ≡ n
digits_same zero m n h g e = omega arith
digits_same (suc k) m n h g e =
    let p : 16 ^ suc k ≡ 16 ^ k * 16 = pow-suc 16 k in
    let r = front_same (last_digits 16 k (m / 16)) (last_digits 16 k (n / 16)) (hex_digit_ascii (m % 16) ∷ []) (hex_digit_ascii (n % 16) ∷ []) (digits_length 16 k (m / 16) ∙ sym (digits_length 16 k (n / 16))) e in
    let q : hex_digit_ascii (m % 16) ≡ hex_digit_ascii (n % 16) = cc r.1 in
    let a : m / 16 ≡ n / 16 = digits_same k (m / 16) (n / 16) (omega arith) (omega arith) r.0 in
    omega (arith, a, glyph_same (m % 16) (n % 16) (omega arith) (omega arith) q)

-- ---- no digit is a blank
abbrev Dark : List ℕ → Type 0
Dark = Each (λ (b : ℕ). 48 ≤ b)

glyph_dark : (d : ℕ) → 48 ≤ hex_digit_ascii d
glyph_dark d = go (ltb d 10) refl
  where
    go : (b : Bool) → ltb d 10 ≡ b → 48 ≤ hex_digit_ascii d
    go true e = omega (arith, glyph_low d (ltb-true d 10 e))
    go false e = omega (arith, glyph_high d (ltb-false d 10 e))

dark_append : (a b : List ℕ) → Dark a → Dark b → Dark (a ++ b)
dark_append [] b f g = g
dark_append (x ∷ a) b f g = (f.0, dark_append a b f.1 g)

digits_dark : (k n : ℕ) → Dark (last_digits 16 k n)
digits_dark zero n = tt
digits_dark (suc k) n = dark_append (last_digits 16 k (n / 16)) (hex_digit_ascii (n % 16) ∷ []) (digits_dark k (n / 16)) (glyph_dark (n % 16), tt)

hex_dark : (bytes : List ℕ) → Dark (hex_bytes bytes)
unfolding hex_bytes
hex_dark [] = tt
hex_dark (b ∷ bs) = dark_append (last_digits 16 2 b) (hex_bytes bs) (digits_dark 2 b) (hex_dark bs)

text_dark : (bytes : List ℕ) → Dark (word_text bytes)
unfolding word_text
text_dark bytes = go (eqb (length bytes) 4) refl
  where
    go : (b : Bool) → eqb (length bytes) 4 ≡ b → Dark (word_text bytes)
    go true e = rw (e, word_text) (digits_dark 8 (le32 bytes 0))
    go false e = rw (e, word_text) (hex_dark bytes)

-- so the text in front of blanks is determined
dark_same : (a b : List ℕ) (m n : ℕ) → Dark a → Dark b → a ++ blanks m ≡ b ++ blanks n → a ≡ b
unfolding blanks
dark_same [] [] m n f g e = refl
dark_same [] (y ∷ b) zero n f g e = cc
dark_same [] (y ∷ b) (suc m) n f g e = let q : 32 ≡ y = cc in absurd (omega (arith, q, g.0))
dark_same (x ∷ a) [] m zero f g e = cc
dark_same (x ∷ a) [] m (suc n) f g e = let q : x ≡ 32 = cc in absurd (omega (arith, q, f.0))
dark_same (x ∷ a) (y ∷ b) m n f g e =
    let h : x ≡ y = cc in
    let t : a ++ blanks m ≡ b ++ blanks n = cc in
    ap₂ (λ (u : ℕ) (v : List ℕ). u ∷ v) h (dark_same a b m n f.1 g.1 t)

-- ---- a word's text determines its bytes
hex_same : (xs ys : List ℕ) → Bytes xs → Bytes ys → length xs ≡ length ys → hex_bytes xs ≡ hex_bytes ys → xs ≡ ys
unfolding hex_bytes
hex_same [] [] f g l e = refl
hex_same [] (y ∷ ys) f g l e = absurd (omega arith)
hex_same (x ∷ xs) [] f g l e = absurd (omega arith)
hex_same (x ∷ xs) (y ∷ ys) f g l e =
    let r = front_same (last_digits 16 2 x) (last_digits 16 2 y) (hex_bytes xs) (hex_bytes ys) refl e in
    ap₂ (λ (u : ℕ) (v : List ℕ). u ∷ v) (digits_same 2 x y (f 0) (g 0) r.0)
    (hex_same xs ys (λ i. f (suc i)) (λ i. g (suc i)) (omega arith) r.1)

low_same : (a b x y : ℕ) → a < 256 → b < 256 → a + 256 * x ≡ b + 256 * y → (a ≡ b) × (x ≡ y)
low_same a b x y h k e =
    let l : x ≤ y = omega arith in
    let m : y ≤ x = omega arith in
    (omega arith, omega arith)

first_four : (a b : List ℕ) → get_or a 0 0 ≡ get_or b 0 0 → get_or a 1 0 ≡ get_or b 1 0 → get_or a 2 0 ≡ get_or b 2 0 → get_or a 3 0 ≡ get_or b 3 0
    → (i : ℕ) → i < 4 → get_or a i 0 ≡ get_or b i 0
first_four a b p q r s zero h = p
first_four a b p q r s (suc zero) h = q
first_four a b p q r s (suc (suc zero)) h = r
first_four a b p q r s (suc (suc (suc zero))) h = s
first_four a b p q r s (suc (suc (suc (suc i)))) h = absurd (omega arith)

four_same : (a b : List ℕ) → length a ≡ 4 → length b ≡ 4 → Bytes a → Bytes b → le32 a 0 ≡ le32 b 0 → a ≡ b
four_same a b h k f g e =
    let high : List ℕ → ℕ = λ s. get_or s 2 0 + 256 * get_or s 3 0 in
    let l₁ = low_same (get_or a 0 0) (get_or b 0 0) (get_or a 1 0 + 256 * high a) (get_or b 1 0 + 256 * high b) (f 0) (g 0) (omega arith) in
    let l₂ = low_same (get_or a 1 0) (get_or b 1 0) (high a) (high b) (f 1) (g 1) l₁.1 in
    let l₃ = low_same (get_or a 2 0) (get_or b 2 0) (get_or a 3 0) (get_or b 3 0) (f 2) (g 2) l₂.1 in
    ext_get_or 0 a b (h ∙ sym k) (λ i l. first_four a b l₁.0 l₂.0 l₃.0 l₃.1 i (omega arith))

text_same : (a b : List ℕ) → Bytes a → Bytes b → word_text a ≡ word_text b → a ≡ b
unfolding word_text
text_same a b f g e = go (eqb (length a) 4) refl
  where
    l : length a ≡ length b
    l = omega (arith, text_length a, text_length b, ap length e)

    go : (t : Bool) → eqb (length a) 4 ≡ t → a ≡ b
    go true t =
        let h = eqb-true (length a) 4 t in
        let u : eqb (length b) 4 ≡ true = rw l at t in
        let m : last_digits 16 8 (le32 a 0) ≡ last_digits 16 8 (le32 b 0) = rw (t, u, word_text) at e in
        four_same a b h (sym l ∙ h) f g (digits_same 8 (le32 a 0) (le32 b 0) (omega (arith, f 0, f 1, f 2, f 3)) (omega (arith, g 0, g 1, g 2, g 3)) m)
    go false t =
        let h = eqb-false (length a) 4 t in
        hex_same a b f g l (sym (text_part a h) ∙ e ∙ text_part b (λ q. h (l ∙ q)))

-- ---- a word's line and a region's
pub third_blank : (n : ℕ) → get_or (region_line n) 2 0 ≡ 32
unfolding region_line blanks
third_blank n = refl

pub third_dark : (pc : ℕ) (word name : List ℕ) → 48 ≤ get_or (word_line pc word name) 2 0
unfolding word_line
third_dark pc word name = glyph_dark (pc / 16 / 16 / 16 / 16 / 16 % 16)

-- a word's line determines its pc and its word's columns, whatever its label
word_parts : (pc qc : ℕ) (v w n o : List ℕ) → pc < 2 ^ 32 → qc < 2 ^ 32 → length v ≤ 8 → length w ≤ 8 → word_line pc v n ≡ word_line qc w o
    → (pc ≡ qc) × (columns 8 v ≡ columns 8 w)
unfolding word_line
word_parts pc qc v w n o f g h k e =
    let w₁ = columns 8 v ++ bytes_of "  " in
    let w₂ = columns 8 w ++ bytes_of "  " in
    let t₁ = last_digits 16 8 pc ++ bytes_of "  " ++ columns 8 v ++ bytes_of "  " ++ columns 20 (cut n) in
    let t₂ = last_digits 16 8 qc ++ bytes_of "  " ++ columns 8 w ++ bytes_of "  " ++ columns 20 (cut o) in
    let l₁ = front_length pc v n h in
    let l₂ = front_length qc w o k in
    let a = columns_length 8 v h ∙ sym (columns_length 8 w k) in
    let r₁ = front_same (columns 72 t₁) (columns 72 t₂) (bytes_of "\n") (bytes_of "\n") (columns_length 72 t₁ (omega arith) ∙ sym (columns_length 72 t₂ (omega arith))) e in
    let r₂ = front_same t₁ t₂ (blanks (72 - length t₁)) (blanks (72 - length t₂)) (l₁ ∙ sym l₂) r₁.0 in
    let r₃ = front_same (last_digits 16 8 pc ++ bytes_of "  ") (last_digits 16 8 qc ++ bytes_of "  ") (w₁ ++ columns 20 (cut n)) (w₂ ++ columns 20 (cut o)) refl r₂.0 in
    let r₄ = front_same w₁ w₂ (columns 20 (cut n)) (columns 20 (cut o)) (omega (arith, a, length-append (columns 8 v) (bytes_of "  "), length-append (columns 8 w) (bytes_of "  "))) r₃.1 in
    let r₅ = front_same (columns 8 v) (columns 8 w) (bytes_of "  ") (bytes_of "  ") a r₄.0 in
    let r₆ = front_same (last_digits 16 8 pc) (last_digits 16 8 qc) (bytes_of "  ") (bytes_of "  ") refl r₃.0 in
    (digits_same 8 pc qc f g r₆.0, r₅.0)

pub row_same : (r s : Row) (n o : List ℕ) → RowIs r → RowIs s → Bytes r.bytes → Bytes s.bytes
    → word_line r.pc (word_text r.bytes) n ≡ word_line s.pc (word_text s.bytes) o → r ≡ s
row_same r s n o i j f g e =
    let p = word_parts r.pc s.pc (word_text r.bytes) (word_text s.bytes) n o i.pc_fits j.pc_fits (omega (arith, text_length r.bytes, i.most)) (omega (arith, text_length s.bytes, j.most)) e in
    let t = dark_same (word_text r.bytes) (word_text s.bytes) _ _ (text_dark r.bytes) (text_dark s.bytes) p.1 in
    ap₂ (λ (pc : ℕ) (bytes : List ℕ). record { pc = pc; bytes = bytes }) p.0 (text_same r.bytes s.bytes f g t)
