use Rattle.std.proofs.Common.{◌≡◌}
use Rattle.record.specs.Records.{places, first_bad}
use Rattle.record.specs.Left.{places_left}
use Rattle.record.proofs.first_bad.Given as goal

abbrev pub invariant-loop-at : goal.invariant-loop-at
invariant-loop-at g l =
    let ok = g.L.Layout.keeps l.layout l.list in
    first_bad ok (places l.list) ≡ first_bad ok (places_left l.at-iterator)
