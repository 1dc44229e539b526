use Rattle.std.proofs.Common.{◌≡◌, ◌++◌}
use Rattle.record.specs.Left.{places_left}
use Rattle.reading.specs.Reading.{image_of}
use Rattle.image_text.specs.Image.{regions_text}
use Rattle.image_text.proofs.ImageLaws.{left_text}
use Rattle.image_text.proofs.put_regions.Given as goal

-- The text so far, with the text of the regions left put behind it, is the whole text.
abbrev pub invariant-loop-number : goal.invariant-loop-number
invariant-loop-number g l =
    l.out ++ left_text l.regions l.number-iterator.count (places_left l.number-iterator.iter) ≡ l.initial.out ++ regions_text 0 (image_of l.regions)
