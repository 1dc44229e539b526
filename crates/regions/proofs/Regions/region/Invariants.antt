use Rattle.std.proofs.Common.{◌≡◌}
use Rattle.regions.specs.Regions.{region_place}
use Rattle.regions.proofs.Regions.region.Given as goal

-- `at` is the place of the region that the walk has come to
abbrev pub invariant-loop : goal.invariant-loop
invariant-loop l = l.at ≡ region_place l.self-inside.bytes.now l.counter
