use Rattle.std.proofs.Common.{◌≡◌, ℕ, ◌+◌, ◌++◌, append-nil, append_assoc, refl, ap, sym, inl, ◌∙◌, length, length-append, arith, rules}
use Rattle.record.specs.Left.{places_left}
use Rattle.record.specs.Records.{places}
use Rattle.record.proofs.WalkLaws.{Turn, numbered_turn}
use Rattle.regions.specs.Regions.{region_at, region_place}
use Rattle.regions.proofs.RegionsLaws.{region_good, place_taken, region_taken}
use Rattle.reading.specs.Reading.{image_region, image_of}
use Rattle.image_text.specs.Image.{region_text, regions_text}
use Rattle.image_text.proofs.ImageLaws.{left_text, left_all, left_next, left_none}
use Rattle.image_text.proofs.put_regions.Goals as goal
use Rattle.image_text.proofs.put_regions.Goals.{In-Some, After-into_iter-number-iterator}

-- the place of the turn is that of the number
taken : (g : _) (c : In-Some g) → Turn c.args.regions.now c.in-Some.number c.in-Some.at (places_left c.next.new.self.iter)
taken g c = numbered_turn c.args.regions.now _ _ _ (cc) (cc) c.loop-number.yielded_by c.in-Some.ensures.steps.0 c.in-Some.ensures.steps.1

-- the text of its region, and then of the others
turn : (g : _) (c : In-Some g) → let l = c.loop-number in
    let s = c.args.regions.now in
    l.out ++ (region_text c.in-Some.number (image_region s (region_place s c.in-Some.number)) ++ left_text s (c.in-Some.number + 1) (places_left c.next.new.self.iter))
    ≡ c.args.out.now ++ regions_text 0 (image_of s)
turn g c =
    let s = c.args.regions.now in
    let t = c.in-Some.ensures.steps in
    let e = left_next s c.loop-number.number-iterator.count c.in-Some.at (places_left c.next.new.self.iter) in
    rw (← place_taken _ _ _ _ (taken g c), t.1) (rw (t.0, e) at c.loop-number.invariant)

-- the loop begins with all places
begins : (g : _) (c : After-into_iter-number-iterator g) → let it = c.into_iter-number-iterator.result in (it.count ≡ 0) × (places_left it.iter ≡ places c.args.regions.now)
begins g c = (cc, cc)

pub loop-number-init-derived : goal.loop-number-init-derived
loop-number-init-derived g c =
    let b = begins g (goal.at.loop-number-init-derived g c).After-into_iter-number-iterator in
    let few = (region_good c.args.regions.now c.places.ensures.layout).3 in
    ((tt, tt, inl (omega (arith, b.0, ap length b.1, few))), tt)

pub loop-number-init : goal.loop-number-init
loop-number-init g c =
    let b = begins g (goal.at.loop-number-init g c).After-into_iter-number-iterator in
    rw (b.0, b.1, left_all c.args.regions.now) refl

pub region_at-requires : goal.region_at-requires
region_at-requires g c = region_taken _ _ _ _ c.places.ensures.layout (taken g (goal.at.region_at-requires g c).In-Some)

pub put_region-requires : goal.put_region-requires
put_region-requires g c =
    let k = (goal.at.put_region-requires g c).In-Some in
    let t = taken g k in (
      search rules,
      (t.numbered, (c.region_at.ensures ∙ ap (region_at c.args.regions.now) (place_taken _ _ _ _ t), omega (arith, length-append {A = ℕ}, ap length (turn g k), c.requires))),
    )

pub loop-number-preserved : goal.loop-number-preserved
loop-number-preserved g c =
    let e = turn g (goal.at.loop-number-preserved g c).In-Some in
    let behind : c.next.new.self.count ≡ c.in-Some.number + 1 = omega (arith, c.in-Some.ensures.steps.1, c.in-Some.ensures.steps.2) in
    rw (c.put_region.ensures, behind) (append_assoc c.loop-number.out _ _ ∙ e)

pub returns : goal.returns
returns g c =
    let l = c.loop-number in
    sym (append-nil l.out) ∙ rw (c.in-None.ensures.steps.0.0, left_none) at l.invariant
