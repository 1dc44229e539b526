-- A page for the wall (document 02, P3): an image and its labels as lines of bytes. Assumes nothing.
use Rattle.std.specs.Prelude.{ℕ, ◌+◌, ◌-◌, true, false, leb, eqb, length, take, replicate, ◌/◌}
use mathlib.Core.List.{List, [], ◌∷◌, ◌++◌, map, flatten}
use Rattle.io.specs.Digits.{last_digits}
use Rattle.record.specs.Bytes.{le32}
use Rattle.record.specs.Records.{places}
use Rattle.record.specs.Texts.{bytes_of}
use Rattle.names.specs.Owners.{owned_name}
use Rattle.name_order.specs.Order.{order}
use Rattle.reading.specs.Reading.{Image, image_of}
use Rattle.reading.specs.Rows.{Row, rows}
use Rattle.text.specs.Text.{word_text}
use Rattle.std.specs.declared.cmp.Ordering.TheVariants.{Less, Equal, Greater}

-- ---- lines

-- a text, and "blanks for the rest of its ... columns"
unfoldable pub blanks : ℕ → List ℕ
blanks n = replicate n 32

abbrev pub columns : ℕ → List ℕ → List ℕ
columns n text = text ++ blanks (n - length text)

-- "lines of exactly 72 bytes before the newline", with "blanks to 72"
abbrev pub line : List ℕ → List ℕ
line text = columns 72 text ++ bytes_of "\n"

-- "A region starts with a line of its number in two decimal digits and 70 blanks."
unfoldable pub region_line : (number : ℕ) → List ℕ
unfolding blanks
region_line number = line (last_digits 10 2 number)

-- "20 columns, cut with a final `~` if longer"
abbrev pub cut : List ℕ → List ℕ
cut name = elim (leb (length name) 20) [ true ↦ name | false ↦ take 19 name ++ bytes_of "~" ]

-- "pc, 8 columns; two blanks; word, 8; two blanks; label at that pc, 20 columns ...; blanks to 72. Digits are lower-case hexadecimal."
unfoldable pub word_line : (pc : ℕ) (word name : List ℕ) → List ℕ
unfolding blanks
word_line pc word name = line (last_digits 16 8 pc ++ bytes_of "  " ++ columns 8 word ++ bytes_of "  " ++ columns 20 (cut name))

-- ---- the label at a pc

-- the names of the labels at these places whose address is pc
unfoldable pub names_at : (labels : List ℕ) (pc : ℕ) → (ps : List ℕ) → List (List ℕ)
names_at labels pc [] = []
names_at labels pc (p ∷ ps) =
    elim (eqb (le32 labels (p + 4)) pc) [ true ↦ owned_name 4 labels p ∷ names_at labels pc ps | false ↦ names_at labels pc ps ]

-- "Of several labels at a pc, the smallest by bytes is shown."
unfoldable pub smaller : List ℕ → List ℕ → List ℕ
unfolding order
smaller a b = elim (order b a) [ Less ↦ b | Equal ↦ a | Greater ↦ a ]

unfoldable pub smallest : List ℕ → List (List ℕ) → List ℕ
unfolding smaller
smallest a [] = a
smallest a (b ∷ bs) = smallest (smaller a b) bs

-- with no label at the pc, nothing is shown
abbrev pub shown : List (List ℕ) → List ℕ
shown [] = []
shown (a ∷ others) = smallest a others

unfoldable pub label_at : (labels : List ℕ) (pc : ℕ) → List ℕ
unfolding names_at smallest places
label_at labels pc = shown (names_at labels pc (places labels))

-- ---- the page

-- the line of a word; "A last part word shows its bytes"
abbrev pub row_line : (ℕ → List ℕ) → Row → List ℕ
row_line label r = word_line r.pc (word_text r.bytes) (label r.pc)

-- the lines of regions that are numbered from `number` on
unfoldable pub page_lines : (label : ℕ → List ℕ) (number : ℕ) → Image → List (List ℕ)
unfolding rows word_text word_line region_line
page_lines label number [] = []
page_lines label number (r ∷ rs) = region_line number ∷ (map (row_line label) (rows r.address 0 r.bytes) ++ page_lines label (number + 1) rs)

unfoldable pub page_of : (labels regions : List ℕ) → List ℕ
unfolding flatten page_lines label_at image_of
page_of labels regions = flatten (page_lines (label_at labels) 0 (image_of regions))

-- one line for each region, one for each four bytes of it, and one for any bytes left over
unfoldable pub line_count : Image → ℕ
line_count [] = 0
line_count (r ∷ rs) = 1 + (length r.bytes + 3) / 4 + line_count rs
