use Rattle.std.proofs.Common.{◌≡◌, length}
use Rattle.record.specs.Left.{places_left}
use Rattle.reading.specs.Reading.{image_of}
use Rattle.text.proofs.TextLaws.{Left}
use Rattle.page_outcome.specs.Page.{label_at}
use Rattle.page_core.specs.Texts.{image_text}
use Rattle.page_core.proofs.TextsLaws.{left_text}
use Rattle.page_core.proofs.put_page.Given as goal

-- behind the text so far stands that of the regions that are left
abbrev pub invariant-loop-number : goal.invariant-loop-number
invariant-loop-number l =
    let label = label_at l.labels.list in
    record {
      same_slots : length l.slots ≡ length l.initial.slots;
      left : Left l.initial.out 0 (image_text label 0 (image_of l.regions)) l.out l.end (left_text label l.regions l.number-iterator.count (places_left l.number-iterator.iter));
    }
