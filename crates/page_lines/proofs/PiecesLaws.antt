-- The lines of a page, piece by piece. Assumes nothing.
use Rattle.std.specs.Prelude.{ℕ, zero, suc, ◌+◌, ◌-◌, ◌*◌, ◌/◌, ◌%◌, ◌≤◌, ◌<◌, List, [], ◌∷◌, ◌++◌, ◌≡◌, refl, length, take}
use Rattle.std.proofs.Common.{mod-eq_of_lt, arith, append-nil, append_assoc, ap, ap₂, ◌∙◌, length-append, length-take, lt-ltb}
use Rattle.io.specs.Digits.{hex_digit_ascii, last_digits}
use Rattle.record.specs.Bytes.{le32}
use Rattle.record.specs.Texts.{bytes_of}
use Rattle.text.specs.Text.{hex_bytes, word_text}
use Rattle.text.proofs.TextLaws.{hex_length, digits_length, text_whole, text_part, text_length}
use Rattle.page_outcome.specs.Page.{blanks, columns, line, cut, region_line, word_line}
use Rattle.page_outcome.proofs.LinesLaws.{front_length, cut_whole, cut_long}
use Rattle.page_lines.specs.Pieces.{end_of}

-- the first n of m blanks
pub take_blanks : (n m : ℕ) → n ≤ m → take n (blanks m) ≡ blanks n
unfolding blanks
take_blanks zero m h = refl
take_blanks (suc n) zero h = absurd (omega arith)
take_blanks (suc n) (suc m) h = ap (λ (l : List ℕ). 32 ∷ l) (take_blanks n m (omega arith))

-- ---- a word's line, as it is put
-- a line of 40 bytes and blanks
line_40 : (text : List ℕ) → length text ≡ 40 → line text ≡ text ++ bytes_of "                                \n"
unfolding blanks
line_40 text h =
    let e : 72 - length text ≡ 32 = omega arith in
    ap (λ (n : ℕ). (text ++ blanks n) ++ bytes_of "\n") e ∙ append_assoc text (blanks 32) (bytes_of "\n")

pub word_line_lem : (pc : ℕ) (word name : List ℕ) → length word ≤ 8 → word_line pc word name ≡ (last_digits 16 8 pc ++ bytes_of "  " ++ columns 8 word) ++ end_of name
unfolding word_line
word_line_lem pc word name h =
    let front = last_digits 16 8 pc ++ bytes_of "  " ++ columns 8 word in
    let label = columns 20 (cut name) in
    let rest = bytes_of "                                \n" in
    line_40 (front ++ bytes_of "  " ++ label) (front_length pc word name h)
    ∙ ap (λ (l : List ℕ). l ++ rest) (append_assoc front (bytes_of "  ") label) ∙ append_assoc front (bytes_of "  " ++ label) rest

pub full_line : (pc word : ℕ) (name : List ℕ) → word_line pc (last_digits 16 8 word) name ≡ (last_digits 16 8 pc ++ bytes_of "  " ++ last_digits 16 8 word) ++ end_of name
unfolding blanks
full_line pc word name = word_line_lem pc (last_digits 16 8 word) name (omega (arith, digits_length 16 8 word))

pub part_line : (pc : ℕ) (bytes name : List ℕ) → length bytes ≤ 4
    → word_line pc (hex_bytes bytes) name ≡ (last_digits 16 8 pc ++ bytes_of "  " ++ (hex_bytes bytes ++ blanks (8 - 2 * length bytes))) ++ end_of name
part_line pc bytes name h =
    let k = hex_length bytes in
    word_line_lem pc (hex_bytes bytes) name (omega arith)
    ∙ ap (λ (n : ℕ). (last_digits 16 8 pc ++ bytes_of "  " ++ (hex_bytes bytes ++ blanks (8 - n))) ++ end_of name) k

-- a word's columns, as they are put: a whole word fills them
pub word_whole : (bytes : List ℕ) → length bytes ≡ 4 → columns 8 (word_text bytes) ≡ last_digits 16 8 (le32 bytes 0)
unfolding blanks
word_whole bytes h =
    let z : 8 - length (word_text bytes) ≡ 0 = omega (arith, text_length bytes) in
    ap₂ (λ (t : List ℕ) (n : ℕ). t ++ blanks n) (text_whole bytes h) z ∙ append-nil (last_digits 16 8 (le32 bytes 0))

pub word_part : (bytes : List ℕ) → (length bytes ≡ 4 → ⊥) → columns 8 (word_text bytes) ≡ hex_bytes bytes ++ blanks (8 - 2 * length bytes)
word_part bytes h =
    ap₂ (λ (t : List ℕ) (n : ℕ). t ++ blanks (8 - n)) (text_part bytes h) (text_length bytes)

-- ---- a label's columns
pub label_long : (name : List ℕ) → 20 < length name → columns 20 (cut name) ≡ take 19 name ++ bytes_of "~"
unfolding blanks
label_long name h =
    let e = cut_long name h in
    let l : length (take 19 name ++ bytes_of "~") ≡ 20 = omega (arith, length-append (take 19 name) (bytes_of "~"), length-take 19 name) in
    let z : 20 - length (cut name) ≡ 0 = omega (arith, ap length e) in
    ap₂ (λ (t : List ℕ) (n : ℕ). t ++ blanks n) e z ∙ append-nil (take 19 name ++ bytes_of "~")

pub label_whole : (name : List ℕ) → length name ≤ 20 → columns 20 (cut name) ≡ name ++ blanks (20 - length name)
label_whole name h = ap (columns 20) (cut_whole name h)

-- ---- a region's line
abbrev pub rest_of_number : List ℕ
rest_of_number = bytes_of "                                                                      \n"

pub number_line : (n : ℕ) → n < 100 → region_line n ≡ ((48 + n / 10) ∷ []) ++ ((48 + n % 10) ∷ []) ++ rest_of_number
unfolding region_line blanks
number_line n h =
    let a : hex_digit_ascii (n / 10 % 10) ≡ 48 + n / 10 = digit (n / 10) (omega arith) in
    let b : hex_digit_ascii (n % 10) ≡ 48 + n % 10 = small (n % 10) (omega arith) in
    ap₂ (λ (x y : ℕ). line (x ∷ y ∷ [])) a b
  where
    small : (d : ℕ) → d < 10 → hex_digit_ascii d ≡ 48 + d
    small d k = rw (lt-ltb d 10 k)

    digit : (d : ℕ) → d < 10 → hex_digit_ascii (d % 10) ≡ 48 + d
    digit d k = ap hex_digit_ascii (mod-eq_of_lt k) ∙ small d k
