use Rattle.std.proofs.Common.{◌+◌, ◌*◌, ◌-◌}
use Rattle.std.specs.Option.{is_some, unwrap_or}
use Rattle.index_check.proofs.CountingLaws.{Counting}
use Rattle.index_check.proofs.Lists.numbers_right.Given as goal

abbrev pub invariant-loop-i : goal.invariant-loop-i
invariant-loop-i l = Counting l.self.labels l.self.pending l.index l.at l.key (l.count - l.i) (l.at + 7 + 2 * l.i) l.least (is_some l.last) (unwrap_or l.last 0)
