use Rattle.std.specs.Prelude.{Option, Some}
use Rattle.std.proofs.Common.{◌≡◌, ℕ, ◌+◌, ◌-◌, ◌%◌, ◌^◌, ◌<◌, ◌≤◌, List, length, take, get_or, sym, ap, ◌∙◌, arith}
use Rattle.record.specs.Bytes.{le32}
use Rattle.record.specs.Records.{body_len, places}
use Rattle.regions.proofs.RegionsLaws.{RegionIs}
use Rattle.reading.specs.Reading.{Image, image_of}
use Rattle.dry_run_outcome.specs.Fetch.{offset_in, fetch}
use Rattle.dry_run_core.proofs.FetchLaws.{fetch_at, offset_at, fetch_image, place_is, drop_here, drop_on, drop_end}
use Rattle.dry_run_core.proofs.image.Placed.fetch.Goals as goal
use Rattle.dry_run_core.proofs.image.Placed.fetch.Goals.{After-bytes-list, After-half_at}

abbrev found_in : After-bytes-list → List ℕ
found_in c = take c.self.inside.count c.self.inside.at

all_found : (c : After-bytes-list) → found_in c ≡ places c.bytes-list.result.now
all_found c = c.self.invariant.0 ∙ ap places (sym c.bytes-list.ensures.value)

-- a region stands at each place
region : (c : After-bytes-list) (i : ℕ) → i < length (found_in c) → RegionIs c.bytes-list.result.now (get_or (found_in c) i 0)
region c i h = place_is c.bytes-list.result.now (found_in c) i (rw c.bytes-list.ensures.value c.bytes-list.ensures.layout) (all_found c) h

-- A word read through the places is the word of the whole image.
whole : (c : After-bytes-list) {f : Option ℕ} → fetch_at c.bytes-list.result.now (found_in c) c.args.pc ≡ f → fetch c.args.self.now c.args.pc ≡ f
whole c r =
    let s = c.bytes-list.result.now in
    ap (λ (image : Image). fetch image c.args.pc) (sym c.self.view_is ∙ ap image_of (sym c.bytes-list.ensures.value)) ∙ fetch_image s c.args.pc
    ∙ ap (λ (ps : List ℕ). fetch_at s ps c.args.pc) (sym (all_found c)) ∙ r

-- the offset is that of pc in the region
offset : (c : After-half_at) → (c.args.pc + (2 ^ 32 - c.word_at.result)) % 2 ^ 32 ≡ offset_at c.bytes-list.result.now (get_or (take c.self.inside.count c.self.inside.at) c.loop-at.at-index 0) c.args.pc
offset c =
    let e : (c.args.pc + (2 ^ 32 - c.word_at.result)) % 2 ^ 32 ≡ offset_in c.word_at.result c.args.pc = omega (arith, c.word_at.type_inv) in
    e ∙ ap (λ (address : ℕ). offset_in address c.args.pc) c.word_at.ensures

pub overflow_add-at : goal.overflow_add-at
overflow_add-at c = record { fits = omega (arith, region (goal.at.overflow_add-at c).After-bytes-list c.loop-at.at-index c.loop-at-test.true) }

pub word_at-requires : goal.word_at-requires
word_at-requires c = omega (arith, region (goal.at.word_at-requires c).After-bytes-list c.loop-at.at-index c.loop-at-test.true)

pub half_at-requires : goal.half_at-requires
half_at-requires c = omega (arith, region (goal.at.half_at-requires c).After-bytes-list c.loop-at.at-index c.loop-at-test.true)

pub word_at-requires-then-offset-half_at : goal.word_at-requires-then-offset-half_at
word_at-requires-then-offset-half_at c =
    omega (arith, region (goal.at.word_at-requires-then-offset-half_at c).After-bytes-list c.loop-at.at-index c.loop-at-test.true, c.half_at.ensures.0)

pub returns-then-offset-half_at : goal.returns-then-offset-half_at
returns-then-offset-half_at c =
    let b = (goal.at.returns-then-offset-half_at c).After-bytes-list in
    let s = c.bytes-list.result.now in
    let place = get_or (found_in b) c.loop-at.at-index 0 in
    let o = offset (goal.at.returns-then-offset-half_at c).After-half_at in
    let t : RegionIs s place = region b c.loop-at.at-index c.loop-at-test.true in
    let h : offset_at s place c.args.pc + 8 ≤ body_len s place = omega (arith, o, c.if-offset-half_at.true, c.half_at.ensures.0) in
    ap Some (c.word_at-then-offset-half_at.ensures ∙ ap (λ (n : ℕ). le32 s (place + 8 + n)) o)
    ∙ sym (whole b (c.loop-at.invariant.1 ∙ drop_here s (found_in b) c.loop-at.at-index c.args.pc c.loop-at-test.true t h))

pub loop-at-preserved : goal.loop-at-preserved
loop-at-preserved c =
    let b = (goal.at.loop-at-preserved c).After-bytes-list in
    let s = c.bytes-list.result.now in
    let place = get_or (found_in b) c.loop-at.at-index 0 in
    let o = offset (goal.at.loop-at-preserved c).After-half_at in
    let t : RegionIs s place = region b c.loop-at.at-index c.loop-at-test.true in
    let h : body_len s place < offset_at s place c.args.pc + 8 = omega (arith, o, c.if-offset-half_at.false, c.half_at.ensures.0) in
    (omega arith, c.loop-at.invariant.1 ∙ drop_on s (found_in b) c.loop-at.at-index c.args.pc c.loop-at-test.true t h)

pub returns : goal.returns
returns c =
    let b = (goal.at.returns c).After-bytes-list in
    sym (whole b (c.loop-at.invariant.1 ∙ drop_end c.bytes-list.result.now (found_in b) c.loop-at.at-index c.args.pc c.loop-at-test.false))
