-- Laws of the linked call for the counts of a range: too short a buffer, and an answered call. Assumes nothing.
use Rattle.std.specs.Prelude.{ℕ, ◌≤◌, ◌≡◌, List, false, ◌&&◌, length, leb, Result}
use borrow.Author.Tests.{le-leb}
use Rattle.record.specs.Stores.{append}
use Rattle.linked_answer.specs.Words.{answer_bytes, too_short, number_of, words_as_bytes}
use Rattle.form_counts.specs.FormCounts.{count_forms}
use Rattle.linked_count.specs.LinkedCount.{counted_words, form_count_bytes, form_counts_after, linked_count}
use Rattle.form_counts.specs.declared.FormCounts.{FormCounts}
use Rattle.refusal.specs.declared.Refusal.{Refusal}

module _ (start end : ℕ) (counts answer : List ℕ) where
  pub count_short : (leb answer_bytes (length answer) && leb form_count_bytes (length counts)) ≡ false
      → linked_count start end counts answer ≡ (record { result = too_short; counts = counts; answer = answer })
  unfolding linked_count
  count_short e = rw (e, linked_count)

  pub count_answered_lem : {given : (Result FormCounts Refusal)} {counts' words answer' : List ℕ} → answer_bytes ≤ length answer → form_count_bytes ≤ length counts
      → given ≡ count_forms start end → words ≡ counted_words given → counts' ≡ form_counts_after given counts → answer' ≡ append answer 0 (words_as_bytes words)
      → linked_count start end counts answer ≡ (record { result = number_of words; counts = counts'; answer = answer' })
  unfolding linked_count
  count_answered_lem h k g w n a = rw (le-leb answer_bytes (length answer) h, le-leb form_count_bytes (length counts) k, linked_count, a, n, w, g)
