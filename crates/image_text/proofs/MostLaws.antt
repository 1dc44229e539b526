-- An image's text is at most six times as long as its region list, plus the entry's line. Assumes nothing.
use Rattle.std.specs.Prelude.{◌≡◌, ℕ, ◌+◌, ◌-◌, ◌*◌, ◌≤◌, List, [], ◌∷◌, ◌++◌, map, length, None}
use Rattle.std.proofs.Common.{arith, ⊎_elim, sym, length-append, length-take}
use mathlib.Core.List.{flatten}
use Rattle.record.specs.Bytes.{part}
use Rattle.record.specs.Records.{body_len, next, places, places_from, first_bad}
use Rattle.record.proofs.RecordsLaws.{places_all, places_cons, first_good}
use Rattle.regions.specs.Regions.{region_ok, region_layout}
use Rattle.regions.proofs.RegionsLaws.{RegionIs, region_is, region_good}
use Rattle.reading.specs.Reading.{ImageRegion, image_region, image_of}
use Rattle.reading.specs.Rows.{Row, row, rows}
use Rattle.text.specs.Text.{word_text}
use Rattle.text.proofs.TextLaws.{field_most, text_length}
use Rattle.image_text.specs.Image.{entry_line, region_line, row_line, data_lines, region_text, regions_text, image_text}
use Rattle.image_text.proofs.ImageLaws.{entry_length, region_length, word_length}

-- a word's line, and lines behind it
row_most : (r : Row) (lines : List ℕ) → length (row_line r ++ lines) ≡ 10 + 2 * length r.bytes + length lines
row_most r lines = omega (arith, length-append (row_line r) lines, word_length r.pc (word_text r.bytes), text_length r.bytes)

data_most : (address i : ℕ) (bytes : List ℕ) → length (data_lines address i bytes) ≤ 5 * length bytes + 7
unfolding data_lines flatten rows
data_most address i [] = omega arith
data_most address i (a ∷ []) = omega (arith, row_most (row address i (a ∷ [])) [])
data_most address i (a ∷ b ∷ []) = omega (arith, row_most (row address i (a ∷ b ∷ [])) [])
data_most address i (a ∷ b ∷ c ∷ []) = omega (arith, row_most (row address i (a ∷ b ∷ c ∷ [])) [])
data_most address i (a ∷ b ∷ c ∷ d ∷ rest) =
    omega (arith, row_most (row address i (a ∷ b ∷ c ∷ d ∷ [])) (data_lines address (i + 4) rest), data_most address (i + 4) rest)

region_most : (number : ℕ) (r : ImageRegion) → length (region_text number r) ≤ 5 * length r.bytes + 44
region_most number r =
    omega (
      arith,
      length-append (region_line number r.address) (data_lines r.address 0 r.bytes),
      region_length number r.address,
      field_most number,
      data_most r.address 0 r.bytes,
    )

-- A region's text is at most six times as long as its record.
one_most : (s : List ℕ) (at number : ℕ) → RegionIs s at → length (region_text number (image_region s at)) + 6 * at ≤ 6 * next s at
one_most s at number i =
    let b : length (part s (at + 8) (body_len s at - 4)) ≤ body_len s at - 4 = simp length-take (omega arith) in
    omega (arith, region_most number (image_region s at))

all_most : (s : List ℕ) (at : ℕ) (ps : List ℕ) (number : ℕ) → places_from s at ≡ ps → first_bad (region_ok s) ps ≡ None → at ≤ length s
    → length (regions_text number (map (image_region s) ps)) + 6 * at ≤ 6 * length s
unfolding regions_text
all_most s at [] number e g h = omega arith
all_most s at (p ∷ ps) number e g h =
    let f = first_good (region_ok s) p ps g in
    let c = places_cons s at p ps e in
    let i : RegionIs s at = region_is s at (rw c.1 at f.0) in
    let a = length-append (region_text number (image_region s p)) (regions_text (number + 1) (map (image_region s) ps)) in
    let o : length (region_text number (image_region s p)) + 6 * at ≤ 6 * next s at = rw c.1 (one_most s at number i) in
    ⊎_elim
    (λ w. omega (arith, all_most s (next s at) ps (number + 1) w.1 f.1 i.body))
    (λ w. let z : ◌≡◌ {A = ℕ} 0 1 = cc i.whole_at in absurd (omega arith))
    c.2

pub image_most : (s : List ℕ) (entry : ℕ) → region_layout s ≡ None → length (image_text entry (image_of s)) ≤ 393231
unfolding image_of
image_most s entry g =
    let r = region_good s g in
    let m = all_most s 0 (places s) 0 (sym (places_all s)) r.1 (omega arith) in
    omega (arith, length-append (entry_line entry) (regions_text 0 (image_of s)), entry_length entry, r.0)
