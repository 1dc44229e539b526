use Rattle.std.specs.Prelude.{None}
use Rattle.std.proofs.Common.{◌≡◌, length, take}
use Rattle.name_index.specs.Index.{IndexOf}
use Rattle.labels.specs.Labels.{label_layout}
use Rattle.page_labels.proofs.SlotsLaws.{Slotted}
use Rattle.page_labels.proofs.find_shown.Given as goal

-- The places that are left are the first of the index.
abbrev pub invariant-loop-at : goal.invariant-loop-at
invariant-loop-at l = record {
  good : label_layout l.list ≡ None;
  indexed : IndexOf 4 l.list l.labels.order;
  left : l.at-iterator.iter.rest.now ≡ take (length l.at-iterator.iter.rest.now) l.labels.order;
  slotted : Slotted l.list l.labels.order l.address l.size l.slots (length l.at-iterator.iter.rest.now);
  long : length l.slots ≡ length l.initial.slots;
}
