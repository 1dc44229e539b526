use Rattle.std.proofs.Common.{◌≡◌, ap, arith, length}
use Rattle.record.proofs.WalkLaws.{turn}
use Rattle.record.specs.Left.{places_left}
use Rattle.record.specs.Records.{body_len}
use Rattle.regions.specs.Regions.{region_ok}
use Rattle.regions.proofs.RegionsLaws.{RegionIs, region_is, region_good}
use Rattle.reading.specs.Reading.{image_of}
use Rattle.page_outcome.specs.Page.{line_count}
use Rattle.page_core.proofs.ChecksLaws.{lines_left, left_all, left_next, left_none, lines_most}
use Rattle.page_core.proofs.count_lines.Goals as goal
use Rattle.page_core.proofs.count_lines.Goals.{In-Some, After-half_at}

-- A region stands at the turn's place.
one : (c : In-Some) → RegionIs c.args.regions.now c.in-Some.at
one c =
    let s = c.args.regions.now in
    let t = turn s _ _ _ (cc) c.loop-at.yielded_by c.in-Some.ensures.steps in
    region_is s c.in-Some.at (t.passes (region_ok s) (region_good s c.bytes-list.ensures.layout).1)

body : (c : After-half_at) → c.half_at.result ≡ body_len c.args.regions.now c.in-Some.at
body c = rw c.bytes-list.ensures.value at c.half_at.ensures.0

pub half_at-requires : goal.half_at-requires
half_at-requires c = omega (arith, (one (goal.at.half_at-requires c).In-Some).head, ap length c.bytes-list.ensures.value)

pub overflow_add-count-in-loop-at : goal.overflow_add-count-in-loop-at
overflow_add-count-in-loop-at c =
    let s = c.args.regions.now in
    let g = goal.at.overflow_add-count-in-loop-at c in
    omega (
      arith,
      c.loop-at.invariant,
      ap (lines_left s) c.in-Some.ensures.steps,
      left_next s c.in-Some.at (places_left c.next.new.self) (one g.In-Some),
      left_all s,
      lines_most s c.bytes-list.ensures.layout,
      body g.After-half_at,
    )

pub loop-at-preserved : goal.loop-at-preserved
loop-at-preserved c =
    let s = c.args.regions.now in
    let g = goal.at.loop-at-preserved c in
    omega (
      arith,
      c.loop-at.invariant,
      ap (lines_left s) c.in-Some.ensures.steps,
      left_next s c.in-Some.at (places_left c.next.new.self) (one g.In-Some),
      body g.After-half_at,
    )

pub returns : goal.returns
returns c =
    let s = c.args.regions.now in
    let e : c.loop-at.count ≡ line_count (image_of s) = omega (arith, c.loop-at.invariant, ap (lines_left s) c.in-None.ensures.steps.0, left_none s, left_all s) in
    (e, omega (arith, e, lines_most s c.bytes-list.ensures.layout))
