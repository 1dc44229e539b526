use Rattle.std.proofs.Common.{length, take, drop, ◌++◌, ◌+◌, ◌≡◌}
use Rattle.record.specs.Records.{places}
use Rattle.record.specs.Left.{places_left}
use Rattle.name_index.proofs.fill.Given as goal

-- the places so far are written, and what stands behind them is as it was
abbrev pub invariant-loop-at : goal.invariant-loop-at
invariant-loop-at g l = record {
  room : l.n + length (places_left l.at-iterator) ≡ length (places l.list);
  rest : take l.n l.index ++ places_left l.at-iterator ≡ places l.list;
  behind : drop l.n l.index ≡ drop l.n l.initial.index;
}
