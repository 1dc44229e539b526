-- Laws of a whole dry run: refused for its list, refused for its pc, or run. Assumes nothing.
use Rattle.std.specs.Prelude.{ℕ, List, true, false, ◌≡◌, None, Ok, Some}
use Rattle.refusal.specs.declared.Refusal.TheVariants.{BadLayout, BadStart}
use Rattle.regions.specs.Regions.{region_layout}
use Rattle.reading.specs.Reading.{image_of}
use Rattle.machine.specs.declared.Machine.{Machine}
use Rattle.dry_run_outcome.specs.declared.Ran.{Ran}
use Rattle.dry_run_outcome.specs.declared.DryRun.{DryRun}
use Rattle.dry_run_outcome.specs.Run.{run}
use Rattle.dry_run_outcome.specs.DryRun.{can_start, started, dry_run_outcome, refused_run}

abbrev pub stopped_run : Ran → DryRun
stopped_run r = record { machine = r.machine; answer = Ok r.stopped }

module _ (regions : List ℕ) (m : Machine) (allowance : ℕ) where
  pub outcome_layout : (place : ℕ) → region_layout regions ≡ Some place → dry_run_outcome regions m allowance ≡ refused_run m (BadLayout 0 place)
  unfolding dry_run_outcome
  outcome_layout place e = rw e

  module _ (g : region_layout regions ≡ None) where
    pub outcome_start : can_start (image_of regions) m.pc ≡ false → dry_run_outcome regions m allowance ≡ refused_run m BadStart
    unfolding dry_run_outcome
    outcome_start e = rw (g, e)

    pub outcome_run : can_start (image_of regions) m.pc ≡ true → dry_run_outcome regions m allowance ≡ stopped_run (run allowance (image_of regions) (started m))
    unfolding dry_run_outcome
    outcome_run e = rw (g, e)
