-- What a step of patching promises: the answer, the caller's record and every lent byte. Assumes nothing.
use Rattle.std.specs.Prelude.{List, ◌≡◌, ℕ}
use Rattle.jobs.specs.declared.Job.{Job}
use Rattle.labels.specs.Labels.{Table}
use Rattle.patching_outcome.specs.declared.PatchCounts.{PatchCounts}
use Rattle.patching_outcome.specs.Patching.{Patching, patching_of}
use Rattle.patching_outcome.specs.Step.{StepAnswer, StepOutcome, step_outcome}

-- A step is lent no breakpoints and only reads the pendings: both stay as they were, whatever the breakpoints are.
abbrev pub StepsTo : (Patching → StepOutcome) → (regions pending kept : List ℕ) → PatchCounts → StepAnswer → PatchCounts → (regions_after kept_after : List ℕ) → Type 0
StepsTo outcome regions pending kept counts answer counts_after regions_after kept_after =
    (breakpoints : List ℕ)
    → outcome (patching_of regions pending breakpoints kept counts) ≡ (record { answer = answer; after = patching_of regions_after pending breakpoints kept_after counts_after })

-- what `patch_step` promises
abbrev pub StepIs : Job → Table → (entry regions pending kept : List ℕ) → PatchCounts → StepAnswer → PatchCounts → (regions_after kept_after : List ℕ) → Type 0
StepIs job labels entry = StepsTo (step_outcome job labels entry)
