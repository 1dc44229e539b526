-- What hangs on the wall determines the words: two images with one page, whatever their labels, have the same data in every region, and the same
-- address where a region has data. Assumes nothing.
use Rattle.std.specs.Prelude.{ℕ, ◌+◌, ◌-◌, ◌<◌, ◌≡◌, refl, length, drop, get_or}
use Rattle.std.proofs.Common.{arith, sym, ap, ap₂, ◌∙◌, length-append, get_or-drop}
use mathlib.Core.List.{List, [], ◌∷◌, ◌++◌, map, flatten}
use Rattle.field.specs.Wrap.{wrap32}
use Rattle.record.specs.Records.{body_len, places}
use Rattle.finished_words.specs.Listed.{Bytes}
use Rattle.reading.specs.Reading.{ImageRegion, Image, image_region, image_of}
use Rattle.reading.specs.Rows.{Row, rows}
use Rattle.reading.proofs.RowsLaws.{Each, RowIs, rows_are, bytes_take, rows_bytes, data_of, rows_data}
use Rattle.text.specs.Text.{word_text}
use Rattle.page_outcome.specs.Page.{row_line, label_at, page_lines, page_of}
use Rattle.page_outcome.proofs.Length.{Is73, lines_73}
use Rattle.page_outcome.proofs.DeterminedLaws.{front_same, third_blank, third_dark, row_same}

-- ---- what is said

-- the same data in every region, and the same address where a region has data
pub data SameData : Image → Image → Type 0 where
  no_regions : SameData [] []
  region : {r s : ImageRegion} {rs ss : Image} → r.bytes ≡ s.bytes → (0 < length r.bytes → r.address ≡ s.address) → SameData rs ss → SameData (r ∷ rs) (s ∷ ss)

-- ---- the bytes of lines of one length determine the lines
lines_same : (xs ys : List (List ℕ)) → Each Is73 xs → Each Is73 ys → flatten xs ≡ flatten ys → xs ≡ ys
unfolding flatten
lines_same [] [] f g e = refl
lines_same [] (y ∷ ys) f g e = absurd (omega (arith, ap length e, length-append y (flatten ys), g.0))
lines_same (x ∷ xs) [] f g e = absurd (omega (arith, ap length e, length-append x (flatten xs), f.0))
lines_same (x ∷ xs) (y ∷ ys) f g e =
    let r = front_same x y (flatten xs) (flatten ys) (f.0 ∙ sym g.0) e in
    ap₂ (λ (u : List ℕ) (v : List (List ℕ)). u ∷ v) r.0 (lines_same xs ys f.1 g.1 r.1)

-- ---- the lines of a region's words; behind them comes nothing or the next region's line
abbrev Behind : List (List ℕ) → Type 0
Behind [] = Unit
Behind (l ∷ ls) = get_or l 2 0 ≡ 32

behind_not : (label : ℕ → List ℕ) (r : Row) (ls P : List (List ℕ)) → Behind P → P ≡ row_line label r ∷ ls → ◌≡◌ {A = ℕ} 0 1
behind_not label r ls [] b e = cc
behind_not label r ls (l ∷ P) b e =
    let h : l ≡ row_line label r = cc in
    let q = ap (λ (x : List ℕ). get_or x 2 0) h in
    absurd (omega (arith, q, b, third_dark r.pc (word_text r.bytes) (label r.pc)))

abbrev Fits : Row → Type 0
Fits r = RowIs r × Bytes r.bytes

module _ (label other : ℕ → List ℕ) (P Q : List (List ℕ)) (u : Behind P) (v : Behind Q) where
  rows_same : (rs ss : List Row) → Each Fits rs → Each Fits ss → map (row_line label) rs ++ P ≡ map (row_line other) ss ++ Q → (rs ≡ ss) × (P ≡ Q)
  rows_same [] [] f g e = (refl, e)
  rows_same [] (s ∷ ss) f g e = let z = behind_not other s (map (row_line other) ss ++ Q) P u e in absurd (omega arith)
  rows_same (r ∷ rs) [] f g e = let z = behind_not label r (map (row_line label) rs ++ P) Q v (sym e) in absurd (omega arith)
  rows_same (r ∷ rs) (s ∷ ss) f g e =
      let h : row_line label r ≡ row_line other s = cc in
      let t : map (row_line label) rs ++ P ≡ map (row_line other) ss ++ Q = cc in
      let k = rows_same rs ss f.1 g.1 t in
      let q = row_same r s (label r.pc) (other s.pc) f.0.0 g.0.0 f.0.1 g.0.1 h in
      (ap₂ (λ (x : Row) (xs : List Row). x ∷ xs) q k.0, k.1)

-- ---- a region from its words
each_both : (rs : List Row) → Each RowIs rs → Each (λ (r : Row). Bytes r.bytes) rs → Each Fits rs
each_both [] f g = tt
each_both (r ∷ rs) f g = ((f.0, g.0), each_both rs f.1 g.1)

abbrev first_pc : List Row → ℕ
first_pc [] = 0
first_pc (r ∷ rs) = r.pc

first_pc_lem : (address : ℕ) (bytes : List ℕ) → 0 < length bytes → first_pc (rows address 0 bytes) ≡ wrap32 (address + 0)
unfolding rows
first_pc_lem address [] h = absurd (omega arith)
first_pc_lem address (a ∷ []) h = refl
first_pc_lem address (a ∷ b ∷ []) h = refl
first_pc_lem address (a ∷ b ∷ c ∷ []) h = refl
first_pc_lem address (a ∷ b ∷ c ∷ d ∷ rest) h = refl

-- ---- the page
behind_page : (label : ℕ → List ℕ) (n : ℕ) (a : Image) → Behind (page_lines label n a)
unfolding page_lines
behind_page label n [] = tt
behind_page label n (r ∷ rs) = third_blank n

-- an address has 32 bits, and data is bytes
abbrev Whole : ImageRegion → Type 0
Whole r = (r.address < 4294967296) × Bytes r.bytes

lines_determine : (label other : ℕ → List ℕ) (n : ℕ) (a b : Image) → Each Whole a → Each Whole b → page_lines label n a ≡ page_lines other n b → SameData a b
unfolding page_lines
lines_determine label other n [] [] f g e = no_regions
lines_determine label other n [] (s ∷ ss) f g e = let z : ◌≡◌ {A = ℕ} 0 1 = cc in absurd (omega arith)
lines_determine label other n (r ∷ rs) [] f g e = let z : ◌≡◌ {A = ℕ} 0 1 = cc in absurd (omega arith)
lines_determine label other n (r ∷ rs) (s ∷ ss) f g e =
    let P = page_lines label (n + 1) rs in
    let Q = page_lines other (n + 1) ss in
    let x = rows r.address 0 r.bytes in
    let y = rows s.address 0 s.bytes in
    let t : map (row_line label) x ++ P ≡ map (row_line other) y ++ Q = cc in
    let i = each_both x (rows_are r.address 0 r.bytes) (rows_bytes r.address 0 r.bytes f.0.1) in
    let j = each_both y (rows_are s.address 0 s.bytes) (rows_bytes s.address 0 s.bytes g.0.1) in
    let k = rows_same label other P Q (behind_page label (n + 1) rs) (behind_page other (n + 1) ss) x y i j t in
    let same : r.bytes ≡ s.bytes = sym (rows_data r.address 0 r.bytes) ∙ ap data_of k.0 ∙ rows_data s.address 0 s.bytes in
    let here : 0 < length r.bytes → r.address ≡ s.address = λ h.
    let q = sym (first_pc_lem r.address r.bytes h) ∙ ap first_pc k.0 ∙ first_pc_lem s.address s.bytes (rw same at h) in
    omega (arith, q, f.0.0, g.0.0) in
    region {r = r} {s = s} {rs = rs} {ss = ss} same here (lines_determine label other (n + 1) rs ss f.1 g.1 k.1)

regions_whole : (s : List ℕ) → Bytes s → (ps : List ℕ) → Each Whole (map (image_region s) ps)
regions_whole s h [] = tt
regions_whole s h (p ∷ ps) =
    let d : Bytes (drop (p + 8) s) = λ i. rw (get_or-drop (p + 8) s i 0) (h (p + 8 + i)) in
    ((omega (arith, h (p + 4), h (p + 4 + 1), h (p + 4 + 2), h (p + 4 + 3)), bytes_take (body_len s p - 4) (drop (p + 8) s) d), regions_whole s h ps)

-- any two lists of bytes
pub page_determines : (labels others regions changed : List ℕ) → Bytes regions → Bytes changed → page_of labels regions ≡ page_of others changed
    → SameData (image_of regions) (image_of changed)
unfolding page_of image_of
page_determines labels others regions changed f g e =
    let a = image_of regions in
    let b = image_of changed in
    lines_determine (label_at labels) (label_at others) 0 a b (regions_whole regions f (places regions)) (regions_whole changed g (places changed))
    (lines_same (page_lines (label_at labels) 0 a) (page_lines (label_at others) 0 b) (lines_73 (label_at labels) 0 a) (lines_73 (label_at others) 0 b) e)
