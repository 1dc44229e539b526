-- Laws of the page as it is put. Assumes nothing.
use Rattle.std.specs.Prelude.{◌≡◌, ℕ, ◌+◌, ◌*◌, ◌/◌, ◌%◌, ◌<◌, ◌≤◌, min, List, [], ◌∷◌, ◌++◌, map, length, drop, slice_index, refl}
use Rattle.std.proofs.Common.{arith, sym, ◌∙◌}
use Rattle.std.proofs.Math.Path.{ap}
use mathlib.Core.List.{append-nil, append_assoc, flatten}
use Rattle.io.specs.Digits.{last_digits}
use Rattle.field.specs.Wrap.{wrap32}
use Rattle.record.specs.Bytes.{le32}
use Rattle.record.specs.Records.{places}
use Rattle.regions.specs.Regions.{region_count, region_place}
use Rattle.reading.specs.Reading.{ImageRegion, Image, image_region, image_of}
use Rattle.reading.proofs.ImageLaws.{image_next, image_end}
use Rattle.reading.specs.Rows.{row, rows}
use Rattle.reading.proofs.RowsLaws.{rows_none, rows_word, rows_part, rows_next, rows_end}
use Rattle.text.specs.Text.{hex_bytes, word_text}
use Rattle.text.proofs.TextLaws.{text_part}
use Rattle.page_outcome.specs.Page.{word_line, region_line, row_line, label_at, page_lines, page_of}
use Rattle.page_labels.specs.Slots.{SlotOk, name_in, Shows}
use Rattle.page_core.specs.Texts.{data_text, region_text, image_text}

flatten_append : (a b : List (List ℕ)) → flatten (a ++ b) ≡ flatten a ++ flatten b
unfolding flatten
flatten_append [] b = refl
flatten_append (l ∷ ls) b = ap (λ (m : List ℕ). l ++ m) (flatten_append ls b) ∙ sym (append_assoc l (flatten ls) (flatten b))

-- ---- data from an offset on
module _ (label : ℕ → List ℕ) (address i : ℕ) (bytes : List ℕ) where
  pub data_none : length bytes ≤ i → data_text label address i (drop i bytes) ≡ []
  unfolding data_text flatten
  data_none h = rw (rows_none address i bytes h)

  pub data_word : i + 4 ≤ length bytes → let pc = wrap32 (address + i) in
      data_text label address i (drop i bytes) ≡ word_line pc (last_digits 16 8 (le32 bytes i)) (label pc) ++ data_text label address (i + 4) (drop (i + 4) bytes)
  unfolding data_text flatten word_text
  data_word h = rw (rows_word address i bytes h)

  pub data_part : 0 < length bytes → length bytes < 4 → let pc = wrap32 (address + i) in data_text label address i bytes ≡ word_line pc (hex_bytes bytes) (label pc)
  unfolding data_text flatten
  data_part g h =
      let pc = wrap32 (address + i) in
      rw (rows_part address i bytes g h) (append-nil (row_line label (row address i bytes)) ∙ ap (λ (word : List ℕ). word_line pc word (label pc)) (text_part bytes (λ e. omega arith)))

-- The next four bytes, or the last part word, and then the rest.
pub data_next : (label : ℕ → List ℕ) (address i : ℕ) (rest bytes after : List ℕ) → rest ≡ bytes ++ after → length bytes ≡ min 4 (length rest) → 0 < length rest
    → let pc = wrap32 (address + i) in data_text label address i rest ≡ word_line pc (word_text bytes) (label pc) ++ data_text label address (i + 4) after
unfolding data_text flatten
data_next label address i rest bytes after e l h = rw (rows_next address i rest bytes after e l h)

pub data_end : (label : ℕ → List ℕ) (address i : ℕ) (rest : List ℕ) → length rest ≡ 0 → data_text label address i rest ≡ []
unfolding data_text flatten
data_end label address i rest h = rw (rows_end address i rest h)

-- A word's slot holds the name that is shown at its offset.
pub name_at : (labels : List ℕ) (address size : ℕ) (slots : List ℕ) → Shows labels address size slots → (i : ℕ) → i % 4 ≡ 0 → i < size
    → SlotOk labels (slice_index slots (i / 4)) × (name_in labels (slice_index slots (i / 4)) ≡ label_at labels (wrap32 (address + i)))
name_at labels address size slots s i e h =
    let q : 4 * (i / 4) ≡ i = omega arith in
    let k : 4 * (i / 4) < size = omega arith in
    (s.slot_ok (i / 4) k, s.name_is (i / 4) k ∙ ap (λ (j : ℕ). label_at labels (wrap32 (address + j))) q)

-- ---- region after region
image_cons : (label : ℕ → List ℕ) (n : ℕ) (r : ImageRegion) (rs : Image) → image_text label n (r ∷ rs) ≡ region_text label n r ++ image_text label (n + 1) rs
unfolding image_text page_lines flatten data_text
image_cons label n r rs =
    ap (λ (m : List ℕ). region_line n ++ m) (flatten_append (map (row_line label) (rows r.address 0 r.bytes)) (page_lines label (n + 1) rs))
    ∙ sym (append_assoc (region_line n) (flatten (map (row_line label) (rows r.address 0 r.bytes))) (flatten (page_lines label (n + 1) rs)))

pub regions_next : (label : ℕ → List ℕ) (s : List ℕ) (n : ℕ) → n < region_count s
    → image_text label n (drop n (image_of s)) ≡ region_text label n (image_region s (region_place s n)) ++ image_text label (n + 1) (drop (n + 1) (image_of s))
regions_next label s n h = ap (image_text label n) (image_next s n h) ∙ image_cons label n (image_region s (region_place s n)) (drop (n + 1) (image_of s))

pub regions_end : (label : ℕ → List ℕ) (s : List ℕ) (n : ℕ) → region_count s ≤ n → image_text label n (drop n (image_of s)) ≡ []
unfolding image_text page_lines flatten
regions_end label s n h = rw (image_end s n h)

-- the text of the regions at the places that are left, numbered from n on
abbrev pub left_text : (label : ℕ → List ℕ) → List ℕ → ℕ → List ℕ → List ℕ
left_text label s n ps = image_text label n (map (image_region s) ps)

pub places_all : (label : ℕ → List ℕ) (s : List ℕ) → left_text label s 0 (places s) ≡ image_text label 0 (image_of s)
unfolding image_of
places_all label s = refl

pub places_next : (label : ℕ → List ℕ) (s : List ℕ) (n p : ℕ) (ps : List ℕ) → left_text label s n (p ∷ ps) ≡ region_text label n (image_region s p) ++ left_text label s (n + 1) ps
places_next label s n p ps = image_cons label n (image_region s p) (map (image_region s) ps)

pub places_none : (label : ℕ → List ℕ) (s : List ℕ) (n : ℕ) → left_text label s n [] ≡ []
unfolding image_text page_lines flatten
places_none label s n = refl

pub page_is : (labels regions : List ℕ) → image_text (label_at labels) 0 (image_of regions) ≡ page_of labels regions
unfolding page_of image_text
page_is labels regions = refl
