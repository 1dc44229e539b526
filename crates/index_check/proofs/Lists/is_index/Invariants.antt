use Rattle.record.specs.Left.{places_left}
use Rattle.index_check.proofs.CheckingLaws.{CheckedLeft}
use Rattle.index_check.proofs.Lists.is_index.Given as goal

-- the records before those that are left have passed
abbrev pub invariant-loop-at : goal.invariant-loop-at
invariant-loop-at l = CheckedLeft l.self.labels l.self.pending l.index l.last l.sum (places_left l.at-iterator)
