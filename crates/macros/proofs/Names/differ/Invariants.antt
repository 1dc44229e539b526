use Rattle.std.proofs.Common.{◌≡◌}
use Rattle.macros.proofs.NamesLaws.{differ_from}
use Rattle.macros.proofs.Names.differ.Given as goal

abbrev pub invariant-loop-name : goal.invariant-loop-name
invariant-loop-name l = record {
  list : l.name-iterator.list.now ≡ l.self.list.now;
  left : differ_from l.self.list.now l.self.count l.self.at ≡ differ_from l.self.list.now l.name-iterator.count l.name-iterator.at;
}
