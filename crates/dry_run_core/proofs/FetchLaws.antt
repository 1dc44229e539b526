-- The word at a pc, region record by region record. Assumes nothing.
use Rattle.std.specs.Prelude.{◌≡◌, ℕ, ◌+◌, ◌-◌, ◌<◌, ◌≤◌, List, [], ◌∷◌, map, length, drop, slice_index, refl, None, Option, Some}
use Rattle.std.proofs.Common.{add-one, sym, ap, ◌∙◌, drop_of_length-le, length-take, length-drop, drop-cons}
use native.Mathlib.Omega.{arith}
use borrow.Author.Tests.{le-leb, lt-leb}
use Rattle.record.specs.Bytes.{le32, part}
use Rattle.record.specs.Records.{body_len, places}
use Rattle.regions.specs.Regions.{region_layout, region_place}
use Rattle.regions.proofs.RegionsLaws.{RegionIs, region_is, region_good, region_place_ok}
use Rattle.reading.specs.Reading.{image_region, image_of}
use Rattle.reading.proofs.ImageLaws.{part_word}
use Rattle.dry_run_outcome.specs.Fetch.{offset_in, fetch}

-- the word at pc in the regions at those places
abbrev pub fetch_at : (s ps : List ℕ) → ℕ → Option ℕ
fetch_at s ps pc = fetch (map (image_region s) ps) pc

-- There are at most 16 places, and a region stands at each.
pub places_few : (s ps : List ℕ) → region_layout s ≡ None → ps ≡ places s → length ps ≤ 16
places_few s ps g e = rw e (region_good s g).3

pub place_is : (s ps : List ℕ) (i : ℕ) → region_layout s ≡ None → ps ≡ places s → i < length ps → RegionIs s (slice_index ps i)
place_is s ps i g e h = rw e (region_is s (region_place s i) (region_place_ok s i g (rw e at h)))

-- the offset of pc in the region at p
abbrev pub offset_at : (s : List ℕ) (p pc : ℕ) → ℕ
offset_at s p pc = offset_in (le32 s (p + 4)) pc

pub fetch_image : (s : List ℕ) (pc : ℕ) → fetch (image_of s) pc ≡ fetch_at s (places s) pc
unfolding image_of
fetch_image s pc = refl

fetch_none : (s : List ℕ) (pc : ℕ) → fetch_at s [] pc ≡ None
unfolding fetch
fetch_none s pc = refl

module _ (s : List ℕ) (p : ℕ) (ps : List ℕ) (pc : ℕ) (r : RegionIs s p) where
  size : length (part s (p + 8) (body_len s p - 4)) ≡ body_len s p - 4
  size = simp (length-take, length-drop) (omega (arith, r.body, r.least))

  fetch_here : offset_at s p pc + 8 ≤ body_len s p → fetch_at s (p ∷ ps) pc ≡ Some (le32 s (p + 8 + offset_at s p pc))
  unfolding fetch
  fetch_here h =
      let k : offset_at s p pc + 4 ≤ body_len s p - 4 = omega arith in
      rw (size, le-leb (offset_at s p pc + 4) (body_len s p - 4) k, fetch) (ap Some (part_word s (p + 8) (body_len s p - 4) (offset_at s p pc) k))

  fetch_on : body_len s p < offset_at s p pc + 8 → fetch_at s (p ∷ ps) pc ≡ fetch_at s ps pc
  unfolding fetch
  fetch_on h =
      let k : body_len s p - 4 < offset_at s p pc + 4 = omega (arith, r.least) in
      rw (size, lt-leb (offset_at s p pc + 4) (body_len s p - 4) k, fetch)

-- So the first place has the word, or we look at the others.
module _ (s ps : List ℕ) (i pc : ℕ) (h : i < length ps) (r : RegionIs s (slice_index ps i)) where
  from_here : fetch_at s (drop i ps) pc ≡ fetch_at s (slice_index ps i ∷ drop (i + 1) ps) pc
  from_here = ap (λ (l : List ℕ). fetch_at s l pc) (drop-cons ps i 0 h ∙ ap (λ (n : ℕ). slice_index ps i ∷ drop n ps) (sym (add-one i)))

  pub drop_here : offset_at s (slice_index ps i) pc + 8 ≤ body_len s (slice_index ps i) → fetch_at s (drop i ps) pc ≡ Some (le32 s (slice_index ps i + 8 + offset_at s (slice_index ps i) pc))
  drop_here k = from_here ∙ fetch_here s (slice_index ps i) (drop (i + 1) ps) pc r k

  pub drop_on : body_len s (slice_index ps i) < offset_at s (slice_index ps i) pc + 8 → fetch_at s (drop i ps) pc ≡ fetch_at s (drop (i + 1) ps) pc
  drop_on k = from_here ∙ fetch_on s (slice_index ps i) (drop (i + 1) ps) pc r k

pub drop_end : (s ps : List ℕ) (i pc : ℕ) → length ps ≤ i → fetch_at s (drop i ps) pc ≡ None
drop_end s ps i pc h = ap (λ (l : List ℕ). fetch_at s l pc) (drop_of_length-le ps h) ∙ fetch_none s pc
