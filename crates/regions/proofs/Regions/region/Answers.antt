use Rattle.std.proofs.Common.{ℕ, ◌≤◌, ◌<◌, ◌≡◌, List, None, ap, sym, ◌∙◌, arith}
use Rattle.record.specs.Records.{next}
use Rattle.regions.specs.Regions.{region_layout, region_count, region_place, region_at}
use Rattle.regions.proofs.RegionsLaws.{RegionIs, region_is, region_place_ok, place_first, place_after}
use Rattle.regions.proofs.Regions.region.Goals as goal

-- the record that the walk has come to is a region
region : (s : List ℕ) (n number at : ℕ) → region_layout s ≡ None → number < region_count s → n ≤ number → at ≡ region_place s n → RegionIs s at
region s n number at g h i e = rw e (region_is s (region_place s n) (region_place_ok s n g (omega arith)))

pub loop-init : goal.loop-init
loop-init c = sym (place_first _)

pub next-at-requires : goal.next-at-requires
next-at-requires c = omega (arith, region _ c.loop.counter c.args.number _ c.self.invariant (rw c.self.view_is c.requires) (omega arith) c.loop.invariant)

pub loop-preserved : goal.loop-preserved
loop-preserved c =
    let s = c.self.inside.bytes.now in
    let h : c.args.number < region_count s = rw c.self.view_is c.requires in
    c.next-at.ensures.0 ∙ ap (next s) c.loop.invariant ∙ sym (place_after s c.loop.counter (omega (arith, h)))

pub region_at-requires : goal.region_at-requires
region_at-requires c =
    let s = c.self.inside.bytes.now in
    let h : c.args.number < region_count s = rw c.self.view_is c.requires in
    rw (← c.self.view_is, c.loop.invariant) (region_place_ok s c.loop.counter c.self.invariant (omega (arith, h)))

pub returns : goal.returns
returns c =
    let s = c.self.inside.bytes.now in
    let e : c.loop.counter ≡ c.args.number = omega arith in
    let p : c.loop.at ≡ region_place s c.args.number = c.loop.invariant ∙ ap (region_place s) e in
    c.region_at.ensures ∙ ap (region_at c.args.self.now) (rw (← c.self.view_is) p)
