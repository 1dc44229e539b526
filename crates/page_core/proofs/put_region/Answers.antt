use Rattle.std.proofs.Common.{rules, ◌≡◌, ℕ, ◌+◌, ◌-◌, ◌≤◌, List, ◌++◌, length, take, drop, ap, arith, length-drop, length-take}
use Rattle.regions.specs.Regions.{region_place}
use Rattle.regions.proofs.RegionsLaws.{region_good, region_within}
use Rattle.reading.specs.Reading.{image_region}
use Rattle.text.proofs.TextLaws.{put_then, front_room}
use Rattle.page_outcome.specs.Page.{region_line, label_at}
use Rattle.page_outcome.proofs.LinesLaws.{region_length}
use Rattle.page_core.specs.Texts.{data_text, region_text}
use Rattle.page_core.proofs.put_region.Goals as goal
use Rattle.page_core.proofs.put_region.Goals.{After-bytes-list}

-- where the data stands
within : (c : After-bytes-list) → let s = c.bytes-list.result.now in
    (c.args.region.start + c.args.region.size ≤ length s) × (length s ≤ 65536)
within c =
    let s = c.args.regions.now in
    let l = c.bytes-list.ensures in
    rw (c.requires.region_value, l.value) (region_within s c.args.number l.layout c.requires.number_bound, (region_good s l.layout).0)

abbrev bytes_in : (c : After-bytes-list) → List ℕ
bytes_in c = let r = c.args.region in take (r.start + r.size - r.start) (drop r.start c.bytes-list.result.now)

count : (c : After-bytes-list) → length (bytes_in c) ≡ c.args.region.size
count c = let w = within c in simp (length-take, length-drop) (omega arith)

-- the region's text, by what was read of it
read : (c : After-bytes-list) → let a = c.args in
    let s = a.regions.now in
    let r = c.args.region in
    region_text (label_at a.labels.now.list) a.number (image_region s (region_place s a.number)) ≡ region_line a.number ++ data_text (label_at a.labels.now.list) r.address 0 (bytes_in c)
read c =
    let r = c.args.region in
    let n : r.start + r.size - r.start ≡ r.size = omega arith in
    rw (n, c.requires.region_value, c.bytes-list.ensures.value)

-- there is room for the line and for the data behind it
room : (c : After-bytes-list) → let a = c.args in
    a.at + length (region_line a.number ++ data_text (label_at a.labels.now.list) c.args.region.address 0 (bytes_in c)) ≤ length a.out.now
room c = rw (read c) at c.requires.number_in_bounds

pub find_shown-requires-clause-size_bound : goal.find_shown-requires-clause-size_bound
find_shown-requires-clause-size_bound c =
    let w = within (goal.at.find_shown-requires-clause-size_bound c).After-bytes-list in
    (omega arith, omega (arith, w.0, ap length c.bytes-list.ensures.value, c.requires.slots_in_bounds))

pub put_number-data_at-requires : goal.put_number-data_at-requires
put_number-data_at-requires c =
    let a = c.args in
    let g = (goal.at.put_number-data_at-requires c).After-bytes-list in
    let f = front_room a.at (length a.out.now) (region_line a.number) (data_text (label_at a.labels.now.list) c.args.region.address 0 (bytes_in g)) (room g) in
    (omega (arith, f, region_length a.number), omega (arith, (region_good a.regions.now c.bytes-list.ensures.layout).3, c.requires.number_bound))

pub slice_bounds-put_data-end : goal.slice_bounds-put_data-end
slice_bounds-put_data-end c = let w = within (goal.at.slice_bounds-put_data-end c).After-bytes-list in search rules

pub returns : goal.returns
returns c =
    rw (read (goal.at.returns c).After-bytes-list) (put_then _ _ _ _ _ c.put_number-data_at.ensures _ _ _ (rw c.bytes.ensures.value at c.put_data.ensures))
