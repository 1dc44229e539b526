-- What the linked calls for an index return, and what they leave in their lent buffers. Assumes nothing.
use Rattle.std.specs.Prelude.{ℕ, List, [], ◌∷◌, Bool, true, false, ◌&&◌, pos, length, get_or, leb, Err, Ok, Result}
use Rattle.jobs.specs.declared.Job.{Job}
use Rattle.jobs.specs.declared.Job.TheVariants.{Commit, Manual, Release6}
use Rattle.record.specs.Bytes.{le32}
use Rattle.record.specs.Stores.{append}
use Rattle.refusal.specs.Numbers.{zero_location, numbered}
use Rattle.linked_answer.specs.Words.{answer_bytes, too_short, answer_words, number_of, words_as_bytes}
use Rattle.linked_line.specs.LineWords.{emitted_words}
use Rattle.emit_outcome.specs.Answer.{EmitAnswer}
use Rattle.emit_outcome.specs.declared.LinePlace.{LinePlace}
use Rattle.emit_outcome.specs.Call.{Lent, call_of}
use Rattle.indexed_outcome.specs.declared.IndexedCounts.{IndexedCounts}
use Rattle.indexed_outcome.specs.Indexed.{IndexedOutcome, indexed_call_of, indexed_outcome}
use Rattle.indexed_outcome.specs.Make.{MakeOutcome, make_outcome}
use Rattle.refusal.specs.declared.Refusal.{Refusal}

-- ---- a line
-- "the index with a fourth fill count", after the three of every line
abbrev pub indexed_counts_bytes : ℕ
indexed_counts_bytes = 16

abbrev pub indexed_counts_at : List ℕ → IndexedCounts
indexed_counts_at counts = record { counts = record { data_len = le32 counts 0; pending = le32 counts 4; breakpoints = le32 counts 8 }; index = le32 counts 12 }

abbrev pub indexed_count_words : IndexedCounts → List ℕ
indexed_count_words c = c.counts.data_len ∷ c.counts.pending ∷ c.counts.breakpoints ∷ c.index ∷ []

-- a refused line leaves the bytes of the counts
abbrev pub indexed_counts_after : EmitAnswer → IndexedCounts → List ℕ → List ℕ
indexed_counts_after (Ok done) c counts = append counts 0 (words_as_bytes (indexed_count_words c))
indexed_counts_after (Err refused) c counts = counts

-- the jobs by their numbers, 0 to 2 (docs/DECISIONS.md)
abbrev pub last_job : ℕ
last_job = 2

abbrev pub job_numbered : ℕ → Job
job_numbered n = get_or (Commit ∷ Manual ∷ []) n Release6

pub record LinkedIndexed : Type 0 where
  pub result : ℕ
  pub lent : Lent
  pub index : List ℕ
  pub counts : List ℕ
  pub answer : List ℕ

abbrev pub indexed_answered : IndexedOutcome → (counts answer : List ℕ) → LinkedIndexed
indexed_answered outcome counts answer =
    let words = emitted_words outcome.answer in
    record {
      result = number_of words;
      lent = outcome.lent;
      index = outcome.index;
      counts = indexed_counts_after outcome.answer outcome.counts counts;
      answer = append answer 0 (words_as_bytes words);
    }

abbrev pub answerable : (counts : List ℕ) (job : ℕ) (answer : List ℕ) → Bool
answerable counts job answer = leb answer_bytes (length answer) && (leb indexed_counts_bytes (length counts) && leb job last_job)

-- nothing is done if the answer has fewer than 24 bytes, the counts have fewer than 16, or no job has that number
unfoldable pub linked_indexed : (token_list mnemonic descriptors : List ℕ) → Lent → (labels index counts : List ℕ) → LinePlace → (job : ℕ) (answer : List ℕ) → LinkedIndexed
linked_indexed token_list mnemonic descriptors lent labels index counts place job answer =
    let c = indexed_counts_at counts in
    elim (answerable counts job answer) [
      | true ↦ indexed_answered (indexed_outcome (job_numbered job) (indexed_call_of (call_of token_list mnemonic descriptors lent c.counts place) labels index c.index)) counts answer
      | false ↦ record { result = too_short; lent = lent; index = index; counts = counts; answer = answer }
    ]

-- ---- an index made from scratch
-- an index gives number 0 and its fill count as the last word (docs/DECISIONS.md); a refusal gives, like a refused build, "its number, a
-- location and numbers a and b", and the last word 0
abbrev pub made_words : Result ℕ Refusal → List ℕ
made_words (Ok fill) = answer_words 0 zero_location (pos 0) 0 fill
made_words (Err r) = let n = numbered r in answer_words n.number n.location n.a n.b 0

pub record LinkedMake : Type 0 where
  pub result : ℕ
  pub index : List ℕ
  pub answer : List ℕ

abbrev pub make_answered : MakeOutcome → List ℕ → LinkedMake
make_answered outcome answer =
    let words = made_words outcome.answer in
    record { result = number_of words; index = outcome.index; answer = append answer 0 (words_as_bytes words) }

-- nothing is done if the answer has fewer than 24 bytes
unfoldable pub linked_make : (pending : List ℕ) (fill : ℕ) (labels index answer : List ℕ) → LinkedMake
linked_make pending fill labels index answer =
    elim (leb answer_bytes (length answer)) [
      | true ↦ make_answered (make_outcome fill pending labels index) answer
      | false ↦ record { result = too_short; index = index; answer = answer }
    ]
