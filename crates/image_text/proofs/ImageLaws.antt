-- The lengths of an image's lines, and the lines of data and of regions one after the other. Assumes nothing.
use Rattle.std.specs.Prelude.{◌≡◌, ℕ, ◌+◌, ◌<◌, ◌≤◌, min, List, [], ◌∷◌, ◌++◌, map, length, drop, refl}
use Rattle.std.proofs.Common.{arith, ap, ◌∙◌, length-append}
use mathlib.Core.List.{append-nil, flatten}
use Rattle.field.specs.Wrap.{wrap32}
use Rattle.record.specs.Bytes.{le32}
use Rattle.record.specs.Records.{places}
use Rattle.record.specs.Texts.{bytes_of}
use Rattle.regions.specs.Regions.{region_count, region_place}
use Rattle.reading.specs.Reading.{image_region, image_of}
use Rattle.reading.proofs.ImageLaws.{image_next, image_end}
use Rattle.reading.specs.Rows.{row}
use Rattle.reading.proofs.RowsLaws.{rows_none, rows_word, rows_part, rows_next, rows_end}
use Rattle.text.specs.Text.{field, hex_bytes, word_text}
use Rattle.text.proofs.TextLaws.{text_part}
use Rattle.image_text.specs.Image.{eight, entry_line, region_line, word_line, row_line, data_lines, region_text, regions_text}

pub entry_length : (entry : ℕ) → length (entry_line entry) ≡ 15
unfolding entry_line
entry_length entry = refl

pub region_length : (number address : ℕ) → length (region_line number address) ≡ 16 + length (field number)
unfolding region_line
region_length number address =
    let front = bytes_of "region" ++ field number in
    omega (arith, length-append (front ++ bytes_of " " ++ eight address) (bytes_of "\n"), length-append (front ++ bytes_of " ") (eight address), length-append front (bytes_of " "))

pub word_length : (pc : ℕ) (word : List ℕ) → length (word_line pc word) ≡ 10 + length word
unfolding word_line
word_length pc word =
    let front = eight pc ++ bytes_of " " in
    omega (arith, length-append (front ++ word) (bytes_of "\n"), length-append front word)

-- ---- data from an offset on
pub data_none : (address i : ℕ) (bytes : List ℕ) → length bytes ≤ i → data_lines address i (drop i bytes) ≡ []
unfolding data_lines flatten
data_none address i bytes h = rw (rows_none address i bytes h)

pub data_word : (address i : ℕ) (bytes : List ℕ) → i + 4 ≤ length bytes
    → data_lines address i (drop i bytes) ≡ word_line (wrap32 (address + i)) (eight (le32 bytes i)) ++ data_lines address (i + 4) (drop (i + 4) bytes)
unfolding data_lines flatten word_text
data_word address i bytes h = rw (rows_word address i bytes h)

pub data_part : (address i : ℕ) (bytes : List ℕ) → 0 < length bytes → length bytes < 4 → data_lines address i bytes ≡ word_line (wrap32 (address + i)) (hex_bytes bytes)
unfolding data_lines flatten
data_part address i bytes g h = rw (rows_part address i bytes g h) (append-nil (row_line (row address i bytes)) ∙ ap (word_line (wrap32 (address + i))) (text_part bytes (λ e. omega arith)))

-- The next four bytes, or fewer at the end, and then the others.
pub data_next : (address i : ℕ) (rest bytes after : List ℕ) → rest ≡ bytes ++ after → length bytes ≡ min 4 (length rest) → 0 < length rest
    → data_lines address i rest ≡ word_line (wrap32 (address + i)) (word_text bytes) ++ data_lines address (i + 4) after
unfolding data_lines flatten
data_next address i rest bytes after e l h = rw (rows_next address i rest bytes after e l h)

pub data_end : (address i : ℕ) (rest : List ℕ) → length rest ≡ 0 → data_lines address i rest ≡ []
unfolding data_lines flatten
data_end address i rest h = rw (rows_end address i rest h)

-- ---- region after region
pub regions_next : (s : List ℕ) (n : ℕ) → n < region_count s
    → regions_text n (drop n (image_of s)) ≡ region_text n (image_region s (region_place s n)) ++ regions_text (n + 1) (drop (n + 1) (image_of s))
unfolding regions_text
regions_next s n h = rw (image_next s n h)

pub regions_end : (s : List ℕ) (n : ℕ) → region_count s ≤ n → regions_text n (drop n (image_of s)) ≡ []
unfolding regions_text
regions_end s n h = rw (image_end s n h)

-- the text of the regions at the places that are left, numbered from n on
abbrev pub left_text : List ℕ → ℕ → List ℕ → List ℕ
left_text s n ps = regions_text n (map (image_region s) ps)

pub left_all : (s : List ℕ) → left_text s 0 (places s) ≡ regions_text 0 (image_of s)
unfolding image_of
left_all s = refl

pub left_next : (s : List ℕ) (n p : ℕ) (ps : List ℕ) → left_text s n (p ∷ ps) ≡ region_text n (image_region s p) ++ left_text s (n + 1) ps
unfolding regions_text
left_next s n p ps = refl

pub left_none : (s : List ℕ) (n : ℕ) → left_text s n [] ≡ []
unfolding regions_text
left_none s n = refl
