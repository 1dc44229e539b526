use Rattle.std.proofs.Common.{◌≡◌}
use Rattle.input.specs.Input.{behind_lists}
use Rattle.input.proofs.behind_lists.Given as goal

-- what is left stands behind the lists that have been passed
abbrev pub invariant-loop : goal.invariant-loop
invariant-loop l = l.rest ≡ behind_lists l.counter l.input
