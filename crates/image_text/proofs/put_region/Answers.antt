use Rattle.std.proofs.Common.{◌≡◌, ℕ, ◌+◌, ◌-◌, ◌≤◌, List, ◌++◌, length, take, drop, ap, length-append, length-take, arith, rules}
use Rattle.regions.specs.Regions.{region_at, region_place}
use Rattle.regions.proofs.RegionsLaws.{region_good, region_within}
use Rattle.regions.specs.declared.Region.{Region}
use Rattle.reading.specs.Reading.{image_region}
use Rattle.image_text.specs.Image.{region_line, data_lines, region_text}
use Rattle.image_text.proofs.put_region.Goals as goal
use Rattle.image_text.proofs.put_region.Goals.{After-bytes-list}

-- The region's text, from what was read of it.
read : (s : List ℕ) (number : ℕ) (r : Region) → r ≡ region_at s (region_place s number)
    → region_text number (image_region s (region_place s number)) ≡ region_line number r.address ++ data_lines r.address 0 (take (r.start + r.size - r.start) (drop r.start s))
read s number r e = let n : r.start + r.size - r.start ≡ r.size = omega arith in rw (n, e)

-- where the data stands
within : (g : _) (c : After-bytes-list g) → (c.args.region.start + c.args.region.size ≤ length c.bytes-list.result.now) × (length c.bytes-list.result.now ≤ 65536)
within g c =
    let l = c.bytes-list.ensures in
    rw (c.requires.region_value, l.value) (region_within c.args.regions.now c.args.number l.layout c.requires.number_bound, (region_good c.args.regions.now l.layout).0)

pub slice_bounds-put_data-end : goal.slice_bounds-put_data-end
slice_bounds-put_data-end g c = let w = within g (goal.at.slice_bounds-put_data-end g c).After-bytes-list in search rules

pub put_data-requires : goal.put_data-requires
put_data-requires g c =
    let w = within g (goal.at.put_data-requires g c).After-bytes-list in (
      search rules,
      (
        simp length-take (omega arith),
        rw c.bytes-list.ensures.value
            (omega (arith, length-append {A = ℕ}, ap length (read c.args.regions.now c.args.number c.args.region c.requires.region_value), ap length c.put_region_line.ensures, c.requires.number_in_bounds)),
      ),
    )
