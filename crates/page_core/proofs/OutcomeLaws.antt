-- The outcome of a page by its checks. Assumes nothing.
use Rattle.std.specs.Prelude.{◌≡◌, ℕ, ◌*◌, ◌<◌, ◌≤◌, List, length, Err, None, Ok, Some}
use Rattle.std.proofs.Common.{arith, sym, ◌∙◌, le-leb}
use Rattle.std.proofs.Math.Path.{ap}
use Rattle.std.proofs.lemmas.Bool.{lt-leb}
use Rattle.record.specs.Stores.{append}
use Rattle.refusal.specs.Verdicts.{and_then, layout_verdict, name_verdict, Verdict}
use Rattle.refusal.proofs.VerdictsLaws.{both_pass, layout_pass}
use Rattle.refusal.specs.declared.Refusal.{Refusal}
use Rattle.refusal.specs.declared.Refusal.TheVariants.{DuplicateName, NoPageSpace}
use Rattle.labels.specs.Labels.{label_layout, label_repeat}
use Rattle.regions.specs.Regions.{region_layout}
use Rattle.reading.specs.Reading.{image_of}
use Rattle.page_outcome.specs.Page.{page_of, line_count}
use Rattle.page_outcome.proofs.Length.{page_length}
use Rattle.page_outcome.specs.Outcome.{PageOutcome, page_layout, layout_verdicts, room_verdict, page_verdict, outcome_by, page_outcome}

-- If the layouts pass, both lists are good.
pub lists_good : (labels regions : List ℕ) (size : ℕ) → layout_verdicts labels regions size ≡ Ok tt → (label_layout labels ≡ None) × (region_layout regions ≡ None)
unfolding layout_verdicts
lists_good labels regions size p =
    let a = both_pass (layout_verdict 0 (label_layout labels)) (and_then (layout_verdict 1 (region_layout regions)) (layout_verdict 2 (page_layout size))) p in
    let b = both_pass (layout_verdict 1 (region_layout regions)) (layout_verdict 2 (page_layout size)) a.1 in
    (layout_pass 0 (label_layout labels) a.0, layout_pass 1 (region_layout regions) b.0)

module _ (labels regions page : List ℕ) where
  abbrev refused : Refusal → PageOutcome
  refused r = record { answer = Err r; page = page }

  -- The checks behind the layouts.
  abbrev behind : Verdict
  behind = and_then (name_verdict 0 (label_repeat labels)) (room_verdict (page_of labels regions) (length page))

  verdict_is : (v : Verdict) → layout_verdicts labels regions (length page) ≡ v → page_verdict labels regions (length page) ≡ and_then v behind
  unfolding page_verdict
  verdict_is v e = ap (λ (u : Verdict). and_then u behind) e

  outcome_is : (v : Verdict) → page_verdict labels regions (length page) ≡ v → page_outcome labels regions page ≡ outcome_by v (page_of labels regions) page
  unfolding page_outcome
  outcome_is v e = ap (λ (u : Verdict). outcome_by u (page_of labels regions) page) e

  pub layout_stops : (r : Refusal) → layout_verdicts labels regions (length page) ≡ Err r → page_outcome labels regions page ≡ refused r
  layout_stops r e = outcome_is (Err r) (verdict_is (Err r) e)

  -- ---- where the layouts pass
  module _ (p : layout_verdicts labels regions (length page) ≡ Ok tt) where
    pub name_stops : (place : ℕ) → label_repeat labels ≡ Some place → page_outcome labels regions page ≡ refused (DuplicateName 0 place)
    name_stops place e = outcome_is (Err (DuplicateName 0 place)) (verdict_is (Ok tt) p ∙ rw e)

    pub repeat_stops : (r : Refusal) → Err r ≡ name_verdict 0 (label_repeat labels) → page_outcome labels regions page ≡ refused r
    repeat_stops r e =
        outcome_is (Err r) (verdict_is (Ok tt) p ∙ ap (λ (v : Verdict). and_then v (room_verdict (page_of labels regions) (length page))) (sym e))

    pub room_stops : label_repeat labels ≡ None → length page < 73 * line_count (image_of regions) → page_outcome labels regions page ≡ refused NoPageSpace
    room_stops e h =
        let l : length page < length (page_of labels regions) = omega (arith, page_length labels regions) in
        outcome_is (Err NoPageSpace) (verdict_is (Ok tt) p ∙ rw e (rw (lt-leb (length (page_of labels regions)) (length page) l, room_verdict)))

    pub all_pass : label_repeat labels ≡ None → 73 * line_count (image_of regions) ≤ length page
        → page_outcome labels regions page ≡ record { answer = Ok (length (page_of labels regions)); page = append page 0 (page_of labels regions) }
    all_pass e h =
        let l : length (page_of labels regions) ≤ length page = omega (arith, page_length labels regions) in
        outcome_is (Ok tt) (verdict_is (Ok tt) p ∙ rw e (rw (le-leb (length (page_of labels regions)) (length page) l, room_verdict)))
