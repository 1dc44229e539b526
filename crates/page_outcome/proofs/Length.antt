-- Every line of a page has 73 bytes. So a page has 73 for each region and each word, part words included, and at most 1,195,959. Assumes nothing.
use Rattle.std.specs.Prelude.{ℕ, ◌+◌, ◌-◌, ◌*◌, ◌/◌, ◌≤◌, ◌≡◌, refl, length, None}
use Rattle.std.proofs.Common.{arith, ⊎_elim, sym, ap, ◌∙◌, length-append, length-take}
use mathlib.Core.List.Memᴰ
use mathlib.Core.List.{List, [], ◌∷◌, ◌++◌, map, Memᴰ, flatten}
use Rattle.std.proofs.lemmas.List.{length-map}
use Rattle.record.specs.Bytes.{part}
use Rattle.record.specs.Records.{body_len, next, places, places_from, first_bad}
use Rattle.record.proofs.RecordsLaws.{places_all, places_cons, first_good}
use Rattle.regions.specs.Regions.{region_ok, region_layout}
use Rattle.regions.proofs.RegionsLaws.{RegionIs, region_is, region_good}
use Rattle.reading.specs.Reading.{Image, image_region, image_of}
use Rattle.reading.specs.Rows.{Row, rows}
use Rattle.reading.proofs.RowsLaws.{Each, RowIs, rows_are, rows_count}
use Rattle.text.specs.Text.{word_text}
use Rattle.text.proofs.TextLaws.{text_length}
use Rattle.page_outcome.specs.Page.{row_line, label_at, page_lines, page_of, line_count}
use Rattle.page_outcome.proofs.LinesLaws.{region_length, word_length}

-- ---- every line
abbrev pub Is73 : List ℕ → Type 0
Is73 line = length line ≡ 73

-- Each line of the words has 73 bytes, and so has each line behind them.
words_73 : (label : ℕ → List ℕ) (rs : List Row) (lines : List (List ℕ)) → Each RowIs rs → Each Is73 lines → Each Is73 (map (row_line label) rs ++ lines)
words_73 label [] lines f g = g
words_73 label (r ∷ rs) lines f g =
    let w : length (word_text r.bytes) ≤ 8 = omega (arith, text_length r.bytes, f.0.most) in
    (word_length r.pc (word_text r.bytes) (label r.pc) w, words_73 label rs lines f.1 g)

pub lines_73 : (label : ℕ → List ℕ) (number : ℕ) (image : Image) → Each Is73 (page_lines label number image)
unfolding page_lines
lines_73 label number [] = tt
lines_73 label number (r ∷ rs) =
    (region_length number, words_73 label (rows r.address 0 r.bytes) (page_lines label (number + 1) rs) (rows_are r.address 0 r.bytes) (lines_73 label (number + 1) rs))

each_mem : (lines : List (List ℕ)) → Each Is73 lines → (l : List ℕ) → Memᴰ l lines → length l ≡ 73
each_mem [] f l m = absurd (Memᴰ.not-nil m)
each_mem (x ∷ xs) f l m = ⊎_elim (λ (e : l ≡ x). ap length e ∙ f.0) (λ (t : Memᴰ l xs). each_mem xs f.1 l t) (Memᴰ.cases_cons m)

-- "lines of exactly 72 bytes before the newline"
pub line_73 : (labels regions l : List ℕ) → Memᴰ l (page_lines (label_at labels) 0 (image_of regions)) → length l ≡ 73
line_73 labels regions = each_mem (page_lines (label_at labels) 0 (image_of regions)) (lines_73 (label_at labels) 0 (image_of regions))

-- ---- how many lines

lines_count : (label : ℕ → List ℕ) (number : ℕ) (image : Image) → length (page_lines label number image) ≡ line_count image
unfolding page_lines line_count
lines_count label number [] = refl
lines_count label number (r ∷ rs) =
    let x = map (row_line label) (rows r.address 0 r.bytes) in
    omega (
      arith,
      length-append x (page_lines label (number + 1) rs),
      length-map (rows r.address 0 r.bytes) (row_line label),
      rows_count r.address 0 r.bytes,
      lines_count label (number + 1) rs,
    )

flatten_length : (lines : List (List ℕ)) → Each Is73 lines → length (flatten lines) ≡ 73 * length lines
unfolding flatten
flatten_length [] h = refl
flatten_length (l ∷ ls) h = omega (arith, length-append l (flatten ls), h.0, flatten_length ls h.1)

pub page_length : (labels regions : List ℕ) → length (page_of labels regions) ≡ 73 * line_count (image_of regions)
unfolding page_of
page_length labels regions =
    let lines = page_lines (label_at labels) 0 (image_of regions) in
    flatten_length lines (lines_73 (label_at labels) 0 (image_of regions)) ∙ ap (λ (n : ℕ). 73 * n) (lines_count (label_at labels) 0 (image_of regions))

-- ---- the longest page

-- the record of a region has four bytes for each of its lines, and one more
one_most : (s : List ℕ) (at : ℕ) → RegionIs s at → 4 * (1 + (length (image_region s at).bytes + 3) / 4) + 1 + at ≤ next s at
one_most s at i =
    let b : length (part s (at + 8) (body_len s at - 4)) ≤ body_len s at - 4 = simp length-take (omega arith) in
    omega (arith, i.least)

all_most : (s : List ℕ) (at : ℕ) (ps : List ℕ) → places_from s at ≡ ps → first_bad (region_ok s) ps ≡ None → at ≤ length s
    → 4 * line_count (map (image_region s) ps) + length ps + at ≤ length s
unfolding line_count
all_most s at [] e g h = omega arith
all_most s at (p ∷ ps) e g h =
    let f = first_good (region_ok s) p ps g in
    let c = places_cons s at p ps e in
    let i : RegionIs s at = region_is s at (rw c.1 at f.0) in
    let o : 4 * (1 + (length (image_region s p).bytes + 3) / 4) + 1 + at ≤ next s at = rw c.1 (one_most s at i) in
    ⊎_elim
    (λ w. omega (arith, all_most s (next s at) ps w.1 f.1 i.body))
    (λ w. let z : ◌≡◌ {A = ℕ} 0 1 = cc i.whole_at in absurd (omega arith))
    c.2

-- "up to 1,195,959 bytes": no page is longer
pub page_most : (labels regions : List ℕ) → region_layout regions ≡ None → length (page_of labels regions) ≤ 1195959
unfolding image_of
page_most labels regions g =
    let r = region_good regions g in
    let m = all_most regions 0 (places regions) (sym (places_all regions)) r.1 (omega arith) in
    let e = page_length labels regions in
    omega (arith, r.0)
