-- The longest page: one region of 65,528 bytes fills a region list, and its page has 1,195,959 bytes. Assumes nothing.
use Rattle.std.specs.Prelude.{ℕ, ◌-◌, true, ◌≡◌, replicate, None}
use Rattle.std.proofs.Common.{arith, ◌∙◌, length-take, length-drop}
use mathlib.Core.List.{List, [], ◌∷◌, ◌++◌, map}
use Rattle.std.proofs.Math.Path.{ap}
use Rattle.std.proofs.Math.ListN.{length}
use Rattle.std.proofs.lemmas.List.{length-replicate}
use borrow.Author.Tests.{le-leb}
use Rattle.record.specs.Bytes.{part}
use Rattle.record.specs.Records.{body_len, next, whole, places, first_bad_of}
use Rattle.record.proofs.RecordsLaws.{places_all, places_step, places_end, limit_kept}
use Rattle.record.proofs.OneMoreLaws.{is_whole}
use Rattle.record.specs.Stores.{le32_bytes, record_bytes}
use Rattle.regions.specs.Regions.{region_ok, region_records, region_layout}
use Rattle.reading.specs.Reading.{image_region, image_of}
use Rattle.page_outcome.specs.Page.{page_of, line_count}
use Rattle.page_outcome.proofs.Length.{page_length}

module _ (bytes : List ℕ) (h : length bytes ≡ 65528) where
  abbrev full : List ℕ
  full = record_bytes 35 (le32_bytes 0 ++ bytes)

  full_length : length full ≡ 65536
  full_length = omega arith

  full_body : body_len full 0 ≡ 65532
  full_body = omega arith

  full_whole : whole full 0 ≡ true
  full_whole = is_whole full 0 (omega (arith, full_length)) (omega (arith, full_length, full_body))

  full_places : places full ≡ 0 ∷ []
  full_places =
      places_all full ∙ places_step full 0 (omega (arith, full_length)) full_whole
      ∙ ap (λ (ps : List ℕ). 0 ∷ ps) (places_end full (next full 0) (omega (arith, full_length, full_body)))

  full_ok : region_ok full 0 ≡ true
  unfolding region_ok
  full_ok = rw (full_whole, le-leb 4 (body_len full 0) (omega (arith, full_body)))

  full_good : region_layout full ≡ None
  unfolding region_layout region_records first_bad_of
  full_good =
      limit_kept full (region_records full (places full)) (omega (arith, full_length))
      ∙ ap (region_records full) full_places ∙ rw (full_ok, first_bad_of)

  full_count : line_count (image_of full) ≡ 16383
  unfolding image_of line_count
  full_count =
      let b : length (part full 8 (body_len full 0 - 4)) ≡ 65528 = simp (length-take, length-drop) (omega (arith, full_length, full_body)) in
      ap (λ (ps : List ℕ). line_count (map (image_region full) ps)) full_places ∙ omega (arith, b)

  full_page : (labels : List ℕ) → length (page_of labels full) ≡ 1195959
  full_page labels = omega (arith, page_length labels full, full_count)

-- Whatever the labels are, some region list that keeps its layout reaches the limit.
pub longest : (labels : List ℕ) → (regions : List ℕ) × (region_layout regions ≡ None) × (length (page_of labels regions) ≡ 1195959)
longest labels =
    let zeros : length (replicate {A = ℕ} 65528 0) ≡ 65528 = length-replicate {A = ℕ} 65528 0 in
    (full (replicate 65528 0) zeros, full_good (replicate 65528 0) zeros, full_page (replicate 65528 0) zeros labels)
