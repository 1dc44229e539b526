use Rattle.std.proofs.Common.{◌≡◌, ◌+◌}
use Rattle.record.specs.Records.{places}
use Rattle.record.specs.Left.{places_left}
use Rattle.page_core.proofs.ChecksLaws.{lines_left}
use Rattle.page_core.proofs.count_lines.Given as goal

-- The lines so far, plus the lines of the regions left, are all lines.
abbrev pub invariant-loop-at : goal.invariant-loop-at
invariant-loop-at l = l.count + lines_left l.regions (places_left l.at-iterator) ≡ lines_left l.regions (places l.regions)
