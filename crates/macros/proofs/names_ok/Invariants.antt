use Rattle.std.proofs.Common.{◌≡◌, ◌-◌, ◌≤◌, length}
use Rattle.macros.proofs.NamesLaws.{all_ok}
use Rattle.macros.proofs.names_ok.Given as goal

abbrev pub invariant-loop : goal.invariant-loop
invariant-loop l =
    (l.from ≤ length l.list) × (all_ok l.list l.count l.at ≡ all_ok l.list (l.count - l.counter) l.from)
