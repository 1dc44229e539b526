use Rattle.std.proofs.Common.{◌≡◌, ◌≤◌, length}
use Rattle.macros.specs.Macros.{behind_names}
use Rattle.macros.proofs.Names.behind.Given as goal

-- The names that are left begin at `end`.
abbrev pub invariant-loop-rest : goal.invariant-loop-rest
invariant-loop-rest l = record {
  list : l.rest-iterator.list.now ≡ l.self.list.now;
  here : l.end ≡ l.rest-iterator.at;
  within : l.end ≤ length l.self.list.now;
  left : behind_names l.self.count l.self.list.now l.self.at ≡ behind_names l.rest-iterator.count l.self.list.now l.end;
}
