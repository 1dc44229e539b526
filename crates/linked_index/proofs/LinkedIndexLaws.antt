-- Laws of the linked calls that keep an index: a call that cannot be answered, and an answered call. Assumes nothing.
use Rattle.std.specs.Prelude.{ℕ, zero, suc, ◌≤◌, ◌<◌, ◌≡◌, List, false, length, refl, Err, Ok, Result, None, Some}
use Rattle.std.proofs.Common.{sym, ap, ap₂, ◌∙◌, arith}
use borrow.Author.Tests.{le-leb, lt-leb}
use mathlib.Core.Logic.{◌⊎◌, inl, inr}
use Rattle.jobs.specs.declared.Job.{Job}
use Rattle.jobs.specs.declared.Job.TheVariants.{Commit, Manual, Release6}
use Rattle.jobs.specs.Jobs.{job_numbered as numbered_job}
use Rattle.record.specs.Stores.{append}
use Rattle.linked_answer.specs.Words.{answer_bytes, too_short, answered_words, number_of, words_as_bytes}
use Rattle.linked_line.specs.LineWords.{emitted_words}
use Rattle.emit_outcome.specs.Answer.{EmitAnswer}
use Rattle.emit_outcome.specs.declared.LinePlace.{LinePlace}
use Rattle.emit_outcome.specs.Call.{Lent, call_of}
use Rattle.indexed_outcome.specs.declared.IndexedCounts.{IndexedCounts}
use Rattle.indexed_outcome.specs.Indexed.{IndexedOutcome, indexed_call_of, indexed_outcome, indexed_outcome_of}
use Rattle.indexed_outcome.specs.Make.{make_outcome, made_of}
use Rattle.linked_index.specs.LinkedIndex.{indexed_counts_bytes, indexed_counts_at, indexed_counts_after, last_job, job_numbered, indexed_answered, answerable, linked_indexed, made_words, linked_make}
use Rattle.refusal.specs.declared.Refusal.{Refusal}

-- ---- the job of a number
-- If a number has a job, it is this one, and the number is at most the last.
pub job_found : (n : ℕ) (j : Job) → numbered_job n ≡ Some j → (n ≤ last_job) × (j ≡ job_numbered n)
job_found zero j e = (omega arith, let h : j ≡ Commit = cc in h)
job_found (suc zero) j e = (omega arith, let h : j ≡ Manual = cc in h)
job_found (suc (suc zero)) j e = (omega arith, let h : j ≡ Release6 = cc in h)
job_found (suc (suc (suc n))) j e = cc

-- A number without a job is past the last.
pub no_job : (n : ℕ) → numbered_job n ≡ None → last_job < n
no_job zero e = cc
no_job (suc zero) e = cc
no_job (suc (suc zero)) e = cc
no_job (suc (suc (suc n))) e = omega arith

-- ---- a line
-- A buffer is too short, whichever job is asked for.
pub no_counts : (counts : List ℕ) (job : ℕ) (answer : List ℕ) → (length answer < answer_bytes) ⊎ ((answer_bytes ≤ length answer) × (length counts < indexed_counts_bytes)) → answerable counts job answer ≡ false
no_counts counts job answer (inl h) = rw (lt-leb answer_bytes (length answer) h) refl
no_counts counts job answer (inr h) = rw (le-leb answer_bytes (length answer) h.0, lt-leb indexed_counts_bytes (length counts) h.1) refl

module _ (token_list mnemonic descriptors : List ℕ) (lent : Lent) (labels index counts : List ℕ) (place : LinePlace) (job : ℕ) (answer : List ℕ) where
  pub indexed_short : answerable counts job answer ≡ false
      → linked_indexed token_list mnemonic descriptors lent labels index counts place job answer ≡ (record { result = too_short; lent = lent; index = index; counts = counts; answer = answer })
  unfolding linked_indexed
  indexed_short e = rw (e, linked_indexed)

  abbrev outcome : IndexedCounts → Job → IndexedOutcome
  outcome c j = indexed_outcome j (indexed_call_of (call_of token_list mnemonic descriptors lent c.counts place) labels index c.index)

  answered : answer_bytes ≤ length answer → indexed_counts_bytes ≤ length counts → job ≤ last_job
      → linked_indexed token_list mnemonic descriptors lent labels index counts place job answer ≡ indexed_answered (outcome (indexed_counts_at counts) (job_numbered job)) counts answer
  unfolding linked_indexed
  answered h k l = rw (le-leb answer_bytes (length answer) h, le-leb indexed_counts_bytes (length counts) k, le-leb job last_job l, linked_indexed)

  pub indexed_answered_lem : {given : EmitAnswer} {filled : IndexedCounts} {lent' : Lent} {index' counts' words answer' : List ℕ} (c : IndexedCounts) (j : Job)
      → answer_bytes ≤ length answer → indexed_counts_bytes ≤ length counts → job ≤ last_job → c ≡ indexed_counts_at counts → j ≡ job_numbered job
      → indexed_outcome j (indexed_call_of (call_of token_list mnemonic descriptors lent c.counts place) labels index c.index) ≡ indexed_outcome_of given filled lent' index'
      → words ≡ emitted_words given → counts' ≡ indexed_counts_after given filled counts → answer' ≡ append answer 0 (words_as_bytes words)
      → linked_indexed token_list mnemonic descriptors lent labels index counts place job answer ≡ (record { result = number_of words; lent = lent'; index = index'; counts = counts'; answer = answer' })
  indexed_answered_lem c j h k l e f o w n a =
      answered h k l ∙ ap (λ (y : IndexedOutcome). indexed_answered y counts answer) (ap₂ outcome (sym e) (sym f) ∙ o) ∙ rw (a, n, w)

-- ---- an index made afresh
-- The answer gives one number, and these are its words.
pub words_are : (answer : Result ℕ Refusal) → answered_words answer ≡ made_words answer
words_are (Ok last) = refl
words_are (Err r) = refl

module _ (pending : List ℕ) (fill : ℕ) (labels index answer : List ℕ) where
  pub make_short : length answer < answer_bytes → linked_make pending fill labels index answer ≡ (record { result = too_short; index = index; answer = answer })
  unfolding linked_make
  make_short h = rw (lt-leb answer_bytes (length answer) h, linked_make)

  pub make_answered_lem : {given : (Result ℕ Refusal)} {words index' answer' : List ℕ} → answer_bytes ≤ length answer
      → make_outcome fill pending labels index ≡ made_of given index' → words ≡ made_words given → answer' ≡ append answer 0 (words_as_bytes words)
      → linked_make pending fill labels index answer ≡ (record { result = number_of words; index = index'; answer = answer' })
  unfolding linked_make
  make_answered_lem h o w a = rw (le-leb answer_bytes (length answer) h, linked_make, a, w, o)
