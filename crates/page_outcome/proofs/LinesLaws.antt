-- The lengths of the parts of a page's lines, and a label's columns. Assumes nothing.
use Rattle.std.specs.Prelude.{ℕ, ◌-◌, ◌≤◌, ◌<◌, List, ◌++◌, Bool, true, false, ◌≡◌, refl, leb, length, take}
use Rattle.std.proofs.Common.{arith, ap, length-append, length-take, leb-true, leb-false, le-leb}
use Rattle.std.proofs.lemmas.List.{length-replicate}
use Rattle.std.proofs.lemmas.Bool.{lt-leb}
use Rattle.io.specs.Digits.{last_digits}
use Rattle.record.specs.Texts.{bytes_of}
use Rattle.text.proofs.TextLaws.{digits_length}
use Rattle.page_outcome.specs.Page.{blanks, columns, line, cut, region_line, word_line}

pub blanks_length : (n : ℕ) → length (blanks n) ≡ n
unfolding blanks
blanks_length n = length-replicate {A = ℕ} n 32

pub columns_length : (n : ℕ) (text : List ℕ) → length text ≤ n → length (columns n text) ≡ n
columns_length n text h = omega (arith, length-append text (blanks (n - length text)), blanks_length (n - length text))

line_length : (text : List ℕ) → length text ≤ 72 → length (line text) ≡ 73
line_length text h = omega (arith, length-append (columns 72 text) (bytes_of "\n"), columns_length 72 text h)

-- ---- a label: 20 bytes are whole, of 21 the first 19 and `~` are shown
pub cut_whole : (name : List ℕ) → length name ≤ 20 → cut name ≡ name
cut_whole name h = rw (le-leb (length name) 20 h, cut)

pub cut_long : (name : List ℕ) → 20 < length name → cut name ≡ take 19 name ++ bytes_of "~"
cut_long name h = rw (lt-leb (length name) 20 h, cut)

pub cut_most : (name : List ℕ) → length (cut name) ≤ 20
cut_most name = go (leb (length name) 20) refl
  where
    go : (b : Bool) → leb (length name) 20 ≡ b → length (cut name) ≤ 20
    go true e =
        let h = leb-true (length name) 20 e in
        omega (arith, ap length (cut_whole name h))
    go false e =
        let h = leb-false (length name) 20 e in
        omega (arith, ap length (cut_long name (omega arith)), length-append (take 19 name) (bytes_of "~"), length-take 19 name)

-- ---- a region's line and a word's
pub region_length : (number : ℕ) → length (region_line number) ≡ 73
unfolding region_line
region_length number = line_length (last_digits 10 2 number) (omega (arith, digits_length 10 2 number))

pub front_length : (pc : ℕ) (word name : List ℕ) → length word ≤ 8 → length (last_digits 16 8 pc ++ bytes_of "  " ++ columns 8 word ++ bytes_of "  " ++ columns 20 (cut name)) ≡ 40
front_length pc word name h =
    let a = last_digits 16 8 pc ++ bytes_of "  " in
    let b = a ++ columns 8 word in
    let c = b ++ bytes_of "  " in
    omega (
      arith,
      length-append c (columns 20 (cut name)),
      length-append b (bytes_of "  "),
      length-append a (columns 8 word),
      columns_length 20 (cut name) (cut_most name),
      columns_length 8 word h,
    )

pub word_length : (pc : ℕ) (word name : List ℕ) → length word ≤ 8 → length (word_line pc word name) ≡ 73
unfolding word_line
word_length pc word name h =
    let e = front_length pc word name h in
    line_length (last_digits 16 8 pc ++ bytes_of "  " ++ columns 8 word ++ bytes_of "  " ++ columns 20 (cut name)) (omega arith)
