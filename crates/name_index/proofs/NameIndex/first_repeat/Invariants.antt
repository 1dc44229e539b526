use Rattle.std.specs.Prelude.{MatchOption}
use Rattle.std.specs.Option.{unwrap_or}
use Rattle.std.proofs.Common.{length, ◌<◌}
use Rattle.name_index.proofs.IndexLaws.{LeastRepeat}
use Rattle.name_index.proofs.NameIndex.first_repeat.Given as goal

-- `best` is the least place passed that repeats a name
abbrev pub invariant-loop-i : goal.invariant-loop-i
invariant-loop-i g l = record {
  least : LeastRepeat g.row.SKIP l.self.list l.self.order l.i (unwrap_or l.best (length l.self.list));
  within : MatchOption l.best Unit (λ b. b < length l.self.list);
}
