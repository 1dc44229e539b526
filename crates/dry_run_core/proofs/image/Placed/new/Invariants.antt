use Rattle.std.proofs.Common.{length, take, ◌++◌, ◌+◌, ◌≡◌}
use Rattle.record.specs.Records.{places}
use Rattle.record.specs.Left.{places_left}
use Rattle.dry_run_core.proofs.image.Placed.new.Given as goal

-- the places so far are found
abbrev pub invariant-loop-place : goal.invariant-loop-place
invariant-loop-place l = record {
  room : l.count + length (places_left l.place-iterator) ≡ length (places l.regions);
  rest : take l.count l.at ++ places_left l.place-iterator ≡ places l.regions;
  slots : length l.at ≡ 16;
}
