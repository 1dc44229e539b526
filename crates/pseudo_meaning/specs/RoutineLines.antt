-- A line of a routine in a build of what the routine leaves. Assumes nothing.
use Rattle.std.specs.Prelude.{ℕ, List}
use Rattle.jobs.specs.declared.Job.{Job}
use Rattle.record.specs.Bytes.{part}
use Rattle.labels.specs.Labels.{Table}
use Rattle.regions.specs.Regions.{region_place, region_at}
use Rattle.routine.specs.Run.{filled, Buffers, RoutineLine, call_on}
use Rattle.pseudo_meaning.specs.Lines.{LineInBuild}

-- the data of region r of a build's list
abbrev pub filled_region : (regions : List ℕ) → (r : ℕ) → List ℕ
filled_region regions r = part regions (region_at regions (region_place regions r)).start (region_at regions (region_place regions r)).size

-- the line l, emitted into the buffers `found`, in a build with the pendings that the routine left
abbrev pub in_build : RoutineLine → (found left : Buffers) → (build : Job) (labels : Table) (entry regions own : List ℕ) → LineInBuild
in_build l found left build labels entry regions own = record {
  job = l.job;
  call = call_on l found;
  build = build;
  labels = labels;
  entry = entry;
  regions = regions;
  pending = filled left.pending;
  own = own;
}
