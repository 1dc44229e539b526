use Rattle.std.proofs.Common.{◌+◌, ◌≡◌, ◌≤◌, length, drop}
use Rattle.index_check.specs.Checks.{names_in}
use Rattle.index_check.proofs.count_names.Given as goal

abbrev pub invariant-loop-place : goal.invariant-loop-place
invariant-loop-place l = (l.place-index ≤ length l.places) × (l.n ≤ l.place-index) × (l.n + names_in l.pending (drop l.place-index l.places) ≡ names_in l.pending l.places)
