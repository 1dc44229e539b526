use Rattle.std.proofs.Common.{◌≡◌, ◌+◌, ◌++◌, length, refl, ap, inl, ◌∙◌, arith}
use Rattle.record.specs.Left.{places_left}
use Rattle.record.specs.Records.{places}
use Rattle.record.proofs.WalkLaws.{Turn, numbered_turn}
use Rattle.regions.specs.Regions.{region_place, region_at}
use Rattle.regions.proofs.RegionsLaws.{region_good, place_taken, region_taken}
use Rattle.reading.specs.Reading.{image_region, image_of}
use Rattle.text.proofs.TextLaws.{Left, left_first, left_room, left_next, left_none}
use Rattle.page_outcome.specs.Page.{label_at}
use Rattle.page_core.specs.Texts.{region_text, image_text}
use Rattle.page_core.proofs.TextsLaws.{left_text, places_all, places_next, places_none, page_is}
use Rattle.page_core.proofs.put_page.Goals as goal
use Rattle.page_core.proofs.put_page.Goals.{In-Some, After-into_iter-number-iterator}

-- the place of the turn is that of the number
taken : (c : In-Some) → Turn c.args.regions.now c.in-Some.number c.in-Some.place (places_left c.next.new.self.iter)
taken c = numbered_turn c.args.regions.now _ _ _ (cc) (cc) c.loop-number.yielded_by c.in-Some.ensures.steps.0 c.in-Some.ensures.steps.1

-- the text of its region, and then of the others
turn : (c : In-Some) → let l = c.loop-number in
    let s = c.args.regions.now in
    let n = c.in-Some.number in
    let label = label_at c.args.labels.now.list in
    Left c.args.out.now 0 (image_text label 0 (image_of s)) l.out l.end
    (region_text label n (image_region s (region_place s n)) ++ left_text label s (n + 1) (places_left c.next.new.self.iter))
turn c =
    let l = c.loop-number in
    let s = c.args.regions.now in
    let t = c.in-Some.ensures.steps in
    let e = places_next (label_at c.args.labels.now.list) s l.number-iterator.count c.in-Some.place (places_left c.next.new.self.iter) in
    rw (← place_taken _ _ _ _ (taken c), t.1) (rw (t.0, e) at l.invariant.left)

-- the loop begins with all places
begins : (c : After-into_iter-number-iterator) → let it = c.into_iter-number-iterator.result in (it.count ≡ 0) × (places_left it.iter ≡ places c.args.regions.now)
begins c = (cc, cc)

pub loop-number-init-derived : goal.loop-number-init-derived
loop-number-init-derived c =
    let b = begins (goal.at.loop-number-init-derived c).After-into_iter-number-iterator in
    let few = (region_good c.args.regions.now c.places.ensures.layout).3 in
    ((tt, tt, inl (omega (arith, b.0, ap length b.1, few))), tt)

pub loop-number-init : goal.loop-number-init
loop-number-init c =
    let s = c.args.regions.now in
    let label = label_at c.args.labels.now.list in
    let b = begins (goal.at.loop-number-init c).After-into_iter-number-iterator in
    let e = ap length (page_is c.args.labels.now.list s) in
    record {
      same_slots = refl;
      left = rw (b.0, b.1, places_all label s) (left_first c.args.out.now 0 (image_text label 0 (image_of s)) (omega (arith, e, c.requires.regions_in_bounds)));
    }

pub region_at-region-requires : goal.region_at-region-requires
region_at-region-requires c = region_taken _ _ _ _ c.places.ensures.layout (taken (goal.at.region_at-region-requires c).In-Some)

pub put_region-end-requires-clause-number_bound : goal.put_region-end-requires-clause-number_bound
put_region-end-requires-clause-number_bound c = (taken (goal.at.put_region-end-requires-clause-number_bound c).In-Some).numbered

pub put_region-end-requires-clause-region_value : goal.put_region-end-requires-clause-region_value
put_region-end-requires-clause-region_value c =
    c.region_at-region.ensures ∙ ap (region_at c.args.regions.now) (place_taken _ _ _ _ (taken (goal.at.put_region-end-requires-clause-region_value c).In-Some))

pub put_region-end-requires-clause-number_in_bounds : goal.put_region-end-requires-clause-number_in_bounds
put_region-end-requires-clause-number_in_bounds c =
    left_room c.loop-number.out c.loop-number.end _ _ (turn (goal.at.put_region-end-requires-clause-number_in_bounds c).In-Some)

pub loop-number-preserved : goal.loop-number-preserved
loop-number-preserved c =
    let l = c.loop-number in
    let behind : c.next.new.self.count ≡ c.in-Some.number + 1 = omega (arith, c.in-Some.ensures.steps.1, c.in-Some.ensures.steps.2) in
    record {
      same_slots = c.put_region-end.auto.slots ∙ l.invariant.same_slots;
      left = rw behind (left_next l.out l.end _ _ _ _ (turn (goal.at.loop-number-preserved c).In-Some) c.put_region-end.ensures);
    }

pub returns : goal.returns
returns c =
    let l = c.loop-number in
    let s = c.args.regions.now in
    let label = label_at c.args.labels.now.list in
    let p = left_none l.out l.end (rw (c.in-None.ensures.steps.0.0, places_none label s) at l.invariant.left) in
    rw (page_is c.args.labels.now.list s) at p
