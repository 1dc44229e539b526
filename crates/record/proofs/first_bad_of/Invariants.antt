use Rattle.std.proofs.Common.{◌-◌, ◌≡◌, ◌≤◌}
use Rattle.record.specs.Records.{places, first_bad_of}
use Rattle.record.specs.Left.{places_left}
use Rattle.record.proofs.first_bad_of.Given as goal

-- The records left are still to be tested; the rest of the allowed number may stand.
abbrev pub invariant-loop-n : goal.invariant-loop-n
invariant-loop-n g l =
    let ok = g.L.Layout.keeps l.layout l.list in
    record {
      few : l.n-iterator.count ≤ l.most;
      rest : first_bad_of l.most ok (places l.list) ≡ first_bad_of (l.most - l.n-iterator.count) ok (places_left l.n-iterator.iter);
    }
