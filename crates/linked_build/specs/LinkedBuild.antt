-- What the linked call for a build returns, and what it leaves in its lent buffers. Assumes nothing.
use Rattle.std.specs.Prelude.{ℕ, List, true, false, length, leb, Result}
use Rattle.jobs.specs.declared.Job.{Job}
use Rattle.jobs.specs.declared.Job.TheVariants.{Commit}
use Rattle.record.specs.Stores.{append}
use Rattle.linked_answer.specs.Words.{answer_bytes, too_short, answer_words, number_of, words_as_bytes}
use Rattle.labels.specs.Labels.{table_of}
use Rattle.build_outcome.specs.Build.{BuildOutcome, build_outcome}
use Rattle.build_outcome.specs.Returned.{returned}
use Rattle.refusal.specs.declared.Refusal.{Refusal}

-- "its number, a location and numbers a and b", and the entry as the last word
abbrev pub built_words : Result ℕ Refusal → List ℕ
built_words built = let r = returned built in answer_words r.number r.location r.a r.b r.entry

pub record LinkedBuild : Type 0 where
  pub result : ℕ
  pub regions : List ℕ
  pub answer : List ℕ

abbrev pub answered : BuildOutcome → List ℕ → LinkedBuild
answered outcome answer =
    let words = built_words outcome.answer in
    record { result = number_of words; regions = outcome.regions; answer = append answer 0 (words_as_bytes words) }

-- if the answer has fewer than 24 bytes, nothing is done
unfoldable pub linked_build_by : Job → (labels entry regions pending answer : List ℕ) → LinkedBuild
linked_build_by job labels entry regions pending answer =
    elim (leb answer_bytes (length answer)) [
      | true ↦ answered (build_outcome job (table_of labels) entry regions pending) answer
      | false ↦ record { result = too_short; regions = regions; answer = answer }
    ]

-- the same in a job as the commit has it
abbrev pub linked_build : (labels entry regions pending answer : List ℕ) → LinkedBuild
linked_build = linked_build_by Commit
