-- Laws of the linked call for a build: an answer buffer that is too short, and an answered call. Assumes nothing.
use Rattle.std.specs.Prelude.{ℕ, ◌≤◌, ◌<◌, ◌≡◌, List, length, refl, Err, Ok, Result}
use Rattle.std.proofs.Common.{le-leb}
use Rattle.std.proofs.lemmas.Bool.{lt-leb}
use Rattle.jobs.specs.declared.Job.{Job}
use Rattle.record.specs.Stores.{append}
use Rattle.linked_answer.specs.Words.{answer_bytes, too_short, answered_words, number_of, words_as_bytes}
use Rattle.labels.specs.Labels.{table_of}
use Rattle.build_outcome.specs.Build.{build_outcome}
use Rattle.linked_build.specs.LinkedBuild.{built_words, linked_build_by}
use Rattle.refusal.specs.declared.Refusal.{Refusal}

-- The answer gives one number, and these are its words.
pub words_are : (answer : Result ℕ Refusal) → answered_words answer ≡ built_words answer
words_are (Ok last) = refl
words_are (Err r) = refl

module _ (job : Job) (labels entry regions pending answer : List ℕ) where
  pub build_short : length answer < answer_bytes → linked_build_by job labels entry regions pending answer ≡ (record { result = too_short; regions = regions; answer = answer })
  unfolding linked_build_by
  build_short h = rw (lt-leb answer_bytes (length answer) h, linked_build_by)

  pub build_answered : (built : Result ℕ Refusal) (words patched written : List ℕ) → answer_bytes ≤ length answer → built ≡ (build_outcome job (table_of labels) entry regions pending).answer
      → patched ≡ (build_outcome job (table_of labels) entry regions pending).regions → words ≡ built_words built → written ≡ append answer 0 (words_as_bytes words)
      → linked_build_by job labels entry regions pending answer ≡ (record { result = number_of words; regions = patched; answer = written })
  unfolding linked_build_by
  build_answered built words patched written h b p w e = rw (le-leb answer_bytes (length answer) h, linked_build_by, e, w, p, b)
