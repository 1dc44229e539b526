-- The places of a region list, found one after the other. Assumes nothing.
use Rattle.std.specs.Prelude.{◌≡◌, ℕ, ◌+◌, ◌<◌, ◌≤◌, List, ◌∷◌, ◌++◌, length, take, slice_set, None}
use Rattle.std.proofs.Common.{add-one, arith, append-nil, sym, ap, ◌∙◌, length-append, length-take, length-set, take-suc-set}
use Rattle.std.proofs.Math.Seq.{append_snoc}
use Rattle.record.specs.Records.{next, places, places_from, first_bad}
use Rattle.record.proofs.RecordsLaws.{layout_from, places_all, places_step, places_end, good_ok, good_next}
use Rattle.regions.specs.Regions.{region_ok, region_layout}
use Rattle.regions.proofs.RegionsLaws.{RegionIs, region_is, region_good}

-- The first `count` places found, and then the places from `place` on, are all places of s.
pub record Passed (s found : List ℕ) (count place : ℕ) : Type 0 where
  pub within : place ≤ length s
  pub good : layout_from (region_ok s) s place ≡ None
  pub all_of : take count found ++ places_from s place ≡ places s
  pub few : length (places s) ≤ 16
  pub held : count ≤ length found
  pub slots : length found ≡ 16

pub passed_none : (s found : List ℕ) → region_layout s ≡ None → length found ≡ 16 → Passed s found 0 0
passed_none s found g l = record {
  within = omega arith;
  good = ap (first_bad (region_ok s)) (sym (places_all s)) ∙ (region_good s g).1;
  all_of = sym (places_all s);
  few = (region_good s g).3;
  held = omega arith;
  slots = l;
}

module _ (s found : List ℕ) (count place : ℕ) (p : Passed s found count place) where
  pub passed_end : length s ≤ place → take count found ≡ places s
  passed_end h = sym (append-nil (take count found)) ∙ ap (λ (l : List ℕ). take count found ++ l) (sym (places_end s place h)) ∙ p.all_of

  module _ (h : place < length s) where
    pub region_there : RegionIs s place
    region_there = region_is s place (good_ok (region_ok s) s place h p.good)

    step : places_from s place ≡ place ∷ places_from s (next s place)
    step = places_step s place h region_there.whole_at

    -- there is room for one more
    pub room : count < 16
    room =
        let e = ap length p.all_of in
        let f = simp length-append at e in
        omega (arith, ap length step, length-take count found, p.few, p.held)

    pub passed_next : Passed s (slice_set found count place) (count + 1) (next s place)
    passed_next =
        let i = room in
        let j : count < length found = omega (arith, p.slots) in
        record {
          within = region_there.body;
          good = good_next (region_ok s) s place h region_there.whole_at p.good;
          all_of = rw (add-one, take-suc-set found count place j) (append_snoc (take count found) place (places_from s (next s place)) ∙ ap (λ (l : List ℕ). take count found ++ l) (sym step) ∙ p.all_of);
          few = p.few;
          held = rw length-set (omega arith);
          slots = length-set found count place ∙ p.slots;
        }
