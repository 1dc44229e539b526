use Rattle.std.proofs.Common.{length, ◌+◌, ◌-◌, ◌≡◌, ◌≤◌}
use Rattle.name_index.specs.Index.{search_from, standing, lookup_from}
use Rattle.name_index.proofs.NameIndex.find_from.Given as goal

-- the search goes on between `lo` and `hi`
abbrev pub invariant-loop-lo : goal.invariant-loop-lo
invariant-loop-lo g l = record {
  within : l.hi ≤ length l.self.order;
  count : l.compared + (l.hi - l.lo) ≤ l.before + length l.self.order;
  rest : lookup_from g.row.SKIP l.self.list l.self.order l.owner l.name l.before ≡ search_from (standing g.row.SKIP l.self.list l.owner l.name) l.self.order l.lo l.hi l.compared;
}

abbrev pub decreases-loop-lo : goal.decreases-loop-lo
decreases-loop-lo g l = l.hi - l.lo
