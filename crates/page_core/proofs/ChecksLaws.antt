-- Laws of a page's checks, and of the count of its lines. Assumes nothing.
use Rattle.std.specs.Prelude.{◌≡◌, ℕ, ◌+◌, ◌-◌, ◌*◌, ◌/◌, ◌<◌, ◌≤◌, List, [], ◌∷◌, map, length, None, Option, Some}
use Rattle.std.proofs.Common.{arith, sym, refl, ap, length-take, length-drop, le-leb}
use Rattle.std.proofs.lemmas.Bool.{lt-leb}
use Rattle.record.specs.Bytes.{part}
use Rattle.record.specs.Records.{body_len, next, places_from, places}
use Rattle.record.proofs.RecordsLaws.{places_all, places_step, places_end}
use Rattle.refusal.specs.Verdicts.{and_then, layout_verdict, Verdict}
use Rattle.name_index.proofs.CountLaws.{count_at_least}
use Rattle.labels.specs.Labels.{label_ok, label_layout}
use Rattle.labels.proofs.LabelsLaws.{label_is, labels_good}
use Rattle.regions.specs.Regions.{region_layout}
use Rattle.regions.proofs.RegionsLaws.{RegionIs}
use Rattle.reading.specs.Reading.{image_region, image_of}
use Rattle.page_outcome.proofs.Length.{page_length, page_most}
use Rattle.page_outcome.specs.Page.{line_count}
use Rattle.page_outcome.specs.Outcome.{page_limit, page_layout, layout_verdicts}

pub page_long : (size : ℕ) → page_limit < size → page_layout size ≡ Some page_limit
unfolding page_layout
page_long size h = rw (lt-leb size page_limit h, page_layout)

pub page_within : (size : ℕ) → size ≤ page_limit → page_layout size ≡ None
unfolding page_layout
page_within size h = rw (le-leb size page_limit h, page_layout)

pub layouts_are : (labels regions : List ℕ) (size : ℕ) (a b c : Option ℕ) → label_layout labels ≡ a → region_layout regions ≡ b → page_layout size ≡ c
    → layout_verdicts labels regions size ≡ and_then (layout_verdict 0 a) (and_then (layout_verdict 1 b) (layout_verdict 2 c))
unfolding layout_verdicts
layouts_are labels regions size a b c e f g = rw (e, f, g)

pub verdicts_are : (labels regions : List ℕ) (size : ℕ) (a b c : Verdict) → a ≡ layout_verdict 0 (label_layout labels) → b ≡ layout_verdict 1 (region_layout regions)
    → c ≡ layout_verdict 2 (page_layout size) → and_then a (and_then b c) ≡ layout_verdicts labels regions size
verdicts_are labels regions size a b c e f g = rw (e, f, g) (sym (layouts_are labels regions size _ _ _ refl refl refl))

-- ---- the lines of the regions from a place on
abbrev pub lines_from : List ℕ → ℕ → ℕ
lines_from s at = line_count (map (image_region s) (places_from s at))

pub lines_all : (s : List ℕ) → lines_from s 0 ≡ line_count (image_of s)
unfolding image_of
lines_all s = ap (λ (ps : List ℕ). line_count (map (image_region s) ps)) (sym (places_all s))

pub lines_next : (s : List ℕ) (at : ℕ) → at < length s → RegionIs s at → lines_from s at ≡ (body_len s at + 3) / 4 + lines_from s (next s at)
unfolding line_count
lines_next s at h r =
    let e : lines_from s at ≡ 1 + (length (image_region s at).bytes + 3) / 4 + lines_from s (next s at) = ap (λ (ps : List ℕ). line_count (map (image_region s) ps)) (places_step s at h r.whole_at) in
    let b : length (part s (at + 8) (body_len s at - 4)) ≡ body_len s at - 4 = simp (length-take, length-drop) (omega (arith, r.body, r.least)) in
    omega (arith, e, b, r.least)

pub lines_end : (s : List ℕ) (at : ℕ) → length s ≤ at → lines_from s at ≡ 0
unfolding line_count
lines_end s at h = ap (λ (ps : List ℕ). line_count (map (image_region s) ps)) (places_end s at h)

-- ---- the lines of the regions at the places that are left
abbrev pub lines_left : List ℕ → List ℕ → ℕ
lines_left s ps = line_count (map (image_region s) ps)

pub left_all : (s : List ℕ) → lines_left s (places s) ≡ line_count (image_of s)
unfolding image_of
left_all s = refl

pub left_next : (s : List ℕ) (at : ℕ) (ps : List ℕ) → RegionIs s at → lines_left s (at ∷ ps) ≡ (body_len s at + 3) / 4 + lines_left s ps
unfolding line_count
left_next s at ps r =
    let e : lines_left s (at ∷ ps) ≡ 1 + (length (image_region s at).bytes + 3) / 4 + lines_left s ps = refl in
    let b : length (part s (at + 8) (body_len s at - 4)) ≡ body_len s at - 4 = simp (length-take, length-drop) (omega (arith, r.body, r.least)) in
    omega (arith, e, b, r.least)

pub left_none : (s : List ℕ) → lines_left s [] ≡ 0
unfolding line_count
left_none s = refl

pub lines_most : (s : List ℕ) → region_layout s ≡ None → line_count (image_of s) < 16384
lines_most s g = omega (arith, page_length [] s, page_most [] s g)

-- ---- a label has nine bytes at least
pub labels_few : (s : List ℕ) → label_layout s ≡ None → length (places s) * 9 ≤ length s
labels_few s g = count_at_least 9 s (label_ok s) (λ p e. let l = label_is s p e in (l.whole_at, omega (arith, l.least))) (labels_good s g)
