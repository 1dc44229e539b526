-- What must still hold so that a build after emit calls reads back. The premises about patches alone hold already (Tidy). Assumes nothing.
use Rattle.std.specs.Prelude.{ℕ, ◌%◌, ◌≡◌, List, Ok}
use Rattle.jobs.specs.declared.Job.{Job}
use Rattle.labels.specs.Labels.{Table}
use Rattle.pending.specs.Pendings.{pending_at}
use Rattle.patch.specs.Patches.{region_for}
use Rattle.build_outcome.specs.Build.{build_verdict}
use Rattle.finished_words.specs.Listed.{In}
use Rattle.reading.specs.OnTarget.{Going, OnTarget}

-- the region of the patch at p starts at a multiple of four
abbrev pub RegionOnWord : (regions pending : List ℕ) → ℕ → Type 0
RegionOnWord regions pending p = (region_for regions (pending_at pending p)).address % 4 ≡ 0

pub record Asked (job : Job) (labels : Table) (entry regions pending : List ℕ) : Type 0 where
  -- "An accepted build is one to which no refusal is due"
  pub accepted : build_verdict job labels entry regions pending ≡ Ok tt
  pub regions_on_words : (p : ℕ) → In pending p → RegionOnWord regions pending p
  -- "branch and jump destinations multiples of four, branch distances within -32,768 to 32,767 words"
  pub on_target : (p : ℕ) → In pending p → Going (pending_at pending p).kind → OnTarget job labels regions pending p
