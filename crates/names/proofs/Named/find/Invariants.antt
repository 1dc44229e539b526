use Rattle.std.proofs.Common.{◌≡◌}
use Rattle.record.specs.Left.{places_left}
use Rattle.names.specs.Names.{first_where}
use Rattle.names.specs.Owners.{is_owned, first_owned}
use Rattle.names.proofs.Named.find.Given as goal

-- The answer is the first match from here on.
abbrev pub invariant-loop-at : goal.invariant-loop-at
invariant-loop-at g l =
    first_owned g.row.SKIP l.self l.owner l.name ≡ first_where (is_owned g.row.SKIP l.self l.owner l.name) (places_left l.at-iterator)
