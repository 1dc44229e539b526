-- Every line of a routine stands in a build of what the routine leaves: the premise of P11 that its words and patches are there, and that no
-- other patch touches them, is met by lines that are run one after the other on empty buffers. Assumes nothing.
use Rattle.std.specs.Prelude.{ℕ, ◌<◌, ◌≡◌, List, ◌∷◌}
use Rattle.jobs.specs.declared.Job.{Job}
use Rattle.labels.specs.Labels.{Table}
use Rattle.regions.specs.Regions.{region_count}
use Rattle.routine.specs.Run.{filled, Buffers, RoutineLine, run, AllAccepted, Each, OfBytes, AllEmpty}
use Rattle.pseudo_meaning.specs.Lines.{Stands}
use Rattle.pseudo_meaning.specs.RoutineLines.{filled_region, in_build}
use Rattle.pseudo_meaning.proofs.RoutineStandsLaws.{stands}

-- Lines before, the line, and lines after it. The build's region holds the data that they left.
pub routine_stands : (before after : List RoutineLine) (l : RoutineLine) (start : Buffers) → AllEmpty start → Each OfBytes before → Each OfBytes (l ∷ after)
    → AllAccepted before start → AllAccepted (l ∷ after) (run before start)
    → (build : Job) (labels : Table) (entry regions : List ℕ) → l.place.region < region_count regions
    → filled_region regions l.place.region ≡ filled ((run (l ∷ after) (run before start)).region_data l.place.region)
    → (own : List ℕ) × Stands (in_build l (run before start) (run (l ∷ after) (run before start)) build labels entry regions own)
routine_stands = stands
