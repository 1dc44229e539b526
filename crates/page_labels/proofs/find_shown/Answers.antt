use Rattle.std.specs.Prelude.{slice_index}
use Rattle.std.proofs.Common.{◌+◌, ◌-◌, length, arith, length-set}
use Rattle.record.specs.Bytes.{le32}
use Rattle.labels.proofs.LabelsLaws.{LabelIs, labels_within}
use Rattle.page_labels.specs.Slots.{WordIs}
use Rattle.page_labels.proofs.SlotsLaws.{Last, last_of, label_at_lem, slotted_end, slotted_pass, slotted_hit}
use Rattle.page_labels.proofs.find_shown.Goals as goal
use Rattle.page_labels.proofs.find_shown.Goals.{After-from, After-word_of}

-- A turn takes the last of the index's places that are left.
last : (c : After-from) → Last c.args.labels.now.order c.loop-at.at-iterator.iter.rest.now c.next.new.self.iter.rest.now c.in-Some.field-0.now
last c = last_of _ _ _ _ c.loop-at.invariant.left c.in-Some.ensures.steps

-- the record there is a label
turn : (c : After-from) → LabelIs c.bytes-list.result.now c.from.result
turn c =
    let i = c.loop-at.invariant in
    let t = last c in
    rw (c.from.ensures, t.is) (label_at_lem _ _ i.good i.indexed (length c.loop-at.at-iterator.iter.rest.now - 1) (omega (arith, t.some, t.within)))

pub word_at-target-requires : goal.word_at-target-requires
word_at-target-requires c = let t = turn (goal.at.word_at-target-requires c).After-from in omega (arith, t.body, t.least)

pub overflow_add-slots : goal.overflow_add-slots
overflow_add-slots c =
    let t = turn (goal.at.overflow_add-slots c).After-from in
    omega (arith, t.body, t.least, labels_within _ c.loop-at.invariant.good, c.from.ensures)

-- The word that the label's address belongs to.
word : (c : After-word_of) → WordIs c.args.address c.args.size (le32 c.bytes-list.result.now (slice_index c.args.labels.now.order (length c.loop-at.at-iterator.iter.rest.now - 1) + 4)) c.word_of.result
word c =
    let t = last (goal.at.After-word_of c).After-from in
    rw (c.word_at-target.ensures, c.from.ensures, t.is) at c.word_of.ensures

pub loop-at-preserved-in-Some-word_of : goal.loop-at-preserved-in-Some-word_of
loop-at-preserved-in-Some-word_of c =
    let a = c.args in
    let i = c.loop-at.invariant in
    let g = goal.at.loop-at-preserved-in-Some-word_of c in
    let t = last g.After-from in
    let w = rw c.in-Some-word_of.is at (word g.After-word_of) in
    record {
      good = i.good;
      indexed = i.indexed;
      left = t.rest_left;
      slotted = rw (t.fewer, t.is)
          (slotted_hit _ _ i.good i.indexed a.address a.size c.loop-at.slots (length c.loop-at.at-iterator.iter.rest.now) i.slotted t.some c.in-Some-word_of.k w.0 w.1
          (omega (arith, (w.0.hit w.1).0, c.requires.size_bound.1, i.long, c.empty.auto.slots)));
      long = simp length-set i.long;
    }

pub loop-at-preserved : goal.loop-at-preserved
loop-at-preserved c =
    let a = c.args in
    let i = c.loop-at.invariant in
    let g = goal.at.loop-at-preserved c in
    let t = last g.After-from in
    record {
      good = i.good;
      indexed = i.indexed;
      left = t.rest_left;
      slotted = rw t.fewer
          (slotted_pass _ _ i.good i.indexed a.address a.size c.loop-at.slots (length c.loop-at.at-iterator.iter.rest.now) i.slotted t.some 16384 c.requires.size_bound.0
          (rw c.in_default.is at (word g.After-word_of)) (omega arith));
      long = i.long;
    }

pub returns : goal.returns
returns c =
    let a = c.args in
    let i = c.loop-at.invariant in
    rw (← c.bytes-list.ensures.value)
    (slotted_end _ _ i.good i.indexed a.address a.size c.loop-at.slots (rw c.in-None.ensures.steps.0 at i.slotted))
