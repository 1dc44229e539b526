-- What a build promises in each sort of job: its answer in document 01's numbers, every byte of the region list, and that the patches read back. Assumes nothing.
use Rattle.std.specs.Prelude.{◌≡◌, List, ℕ, Result}
use Rattle.jobs.specs.declared.Job.{Job}
use Rattle.jobs.specs.declared.Job.TheVariants.{Commit}
use Rattle.labels.specs.Labels.{table_of}
use Rattle.build_outcome.specs.Build.{build_outcome}
use Rattle.build_outcome.specs.Returned.{returned}
use Rattle.reading.specs.Reading.{image_of, readings, destinations}
use Rattle.reading.specs.Premises.{Premises}
use Rattle.refusal.specs.declared.Refusal.{Refusal}

-- The answer and the region list at exit, for a build of these lists. Two theorems are about the same outcome: `differing_apart` in
-- crates/reading/proofs/Demand.antt, demand 3 on two label tables; `finished` in crates/finished_words/proofs/Finished.antt, every finished word.
pub record BuildBy (job : Job) (labels entry regions pending : List ℕ) (answer : Result ℕ Refusal) (exit : List ℕ) : Type 0 where
  pub answer_is : answer ≡ (build_outcome job (table_of labels) entry regions pending).answer
  -- number, location, a, b and entry
  pub returned_is : returned answer ≡ returned (build_outcome job (table_of labels) entry regions pending).answer
  pub bytes_are : exit ≡ (build_outcome job (table_of labels) entry regions pending).regions
  -- demand 3: under the tender's premises each pending reads back as its destination
  pub reads_back : Premises job (table_of labels) entry regions pending → readings (image_of exit) pending ≡ destinations (table_of labels) pending

-- "Old jobs still equal the commit" (document 02, P5): what `build` promises
abbrev pub BuildIs : (labels entry regions pending : List ℕ) → Result ℕ Refusal → (exit : List ℕ) → Type 0
BuildIs = BuildBy Commit
