-- What the parts of a step are given, and what they promise. Assumes nothing.
use Rattle.std.specs.Prelude.{ℕ, ◌*◌, ◌≤◌, List, ◌≡◌, length, None, Err, Ok, Result}
use Rattle.jobs.specs.declared.Job.{Job}
use Rattle.record.specs.Records.{places}
use Rattle.labels.specs.Labels.{Table}
use Rattle.regions.specs.Regions.{region_count}
use Rattle.pending.specs.Pendings.{pending_layout}
use Rattle.build_outcome.specs.Build.{patch_order, patch_verdict}
use Rattle.patching_outcome.specs.declared.PatchCounts.{PatchCounts}
use Rattle.patching_outcome.specs.Patching.{Patching, patching_of, filled_regions, filled_pendings, regions_of, pendings_of}
use Rattle.patching_outcome.specs.Step.{StepAnswer, step_layouts, StepOutcome, next_by, stopped_step}
use Rattle.patching_step.specs.Undo.{FilledRegions}
use Rattle.refusal.specs.Verdicts.{Verdict}
use Rattle.refusal.specs.declared.Refusal.{Refusal}
use Rattle.patching_outcome.specs.declared.Stepped.{Stepped}
use Rattle.patching_outcome.specs.Contract.{StepIs}

-- lists that keep their layouts
pub record ListsGood (regions pending : List ℕ) (counts : PatchCounts) : Type 0 where
  pub regions_filled : FilledRegions counts.regions regions
  pub pending_within : counts.pending ≤ length pending
  pub pending_good : pending_layout (region_count (filled_regions regions counts)) (filled_pendings pending counts) ≡ None

-- the same lists, and the buffer of kept words is long enough
pub record StepLists (regions pending kept : List ℕ) (counts : PatchCounts) : Type 0 where
  pub lists : ListsGood regions pending counts
  pub kept_room : 4 * length (places (filled_pendings pending counts)) ≤ length kept

-- the pendings' places in patch order
abbrev pub InOrder : (regions pending : List ℕ) → PatchCounts → List ℕ → Type 0
InOrder regions pending counts order = order ≡ patch_order (filled_regions regions counts) (filled_pendings pending counts)

-- what a step does with the pending at a place
abbrev pub next_at : Job → Table → ℕ → Patching → StepOutcome
next_at job labels at p = next_by labels p at (patch_verdict job labels (regions_of p) (pendings_of p) at)

-- the answer of a step when patching does not run; such a step changes nothing
abbrev pub Stopped : Job → Table → (entry : ℕ) → (regions pending : List ℕ) → PatchCounts → StepAnswer → Type 0
Stopped job labels entry regions pending counts answer =
    (breakpoints kept : List ℕ)
    → stopped_step job labels entry (patching_of regions pending breakpoints kept counts) ≡ (record { answer = answer; after = patching_of regions pending breakpoints kept counts })

-- the verdict on the layouts of all lists; no layout reads the breakpoints
abbrev pub LayoutsAre : Table → (entry regions pending kept : List ℕ) → PatchCounts → Verdict → Type 0
LayoutsAre labels entry regions pending kept counts verdict = (breakpoints : List ℕ) → step_layouts labels entry (patching_of regions pending breakpoints kept counts) ≡ verdict

-- the step's answer and record; a refusal by a check leaves the record as it was
abbrev pub answered : PatchCounts → Result Stepped Refusal → Stepped
answered counts (Ok stepped) = stepped
answered counts (Err r) = record { answer = Err r; counts = counts }

-- a whole step, which a check may have refused
abbrev pub CheckedStep : Job → Table → (entry regions pending kept : List ℕ) → PatchCounts → Result Stepped Refusal → (regions_after kept_after : List ℕ) → Type 0
CheckedStep job labels entry regions pending kept counts result regions_after kept_after =
    let s = answered counts result in StepIs job labels entry regions pending kept counts s.answer s.counts regions_after kept_after
