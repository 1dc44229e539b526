-- What the linked call for the counts of a range returns, and what it leaves in its lent buffers. Assumes nothing.
use Rattle.std.specs.Prelude.{ℕ, List, ◌++◌, true, false, ◌&&◌, pos, length, leb, Err, Ok, Result}
use Rattle.record.specs.Stores.{append, le64_bytes}
use Rattle.refusal.specs.Numbers.{zero_location, numbered}
use Rattle.linked_answer.specs.Words.{answer_bytes, too_short, answer_words, number_of, words_as_bytes}
use Rattle.form_counts.specs.declared.FormCounts.{FormCounts}
use Rattle.form_counts.specs.FormCounts.{count_forms}
use Rattle.refusal.specs.declared.Refusal.{Refusal}

-- the counts themselves go into their own buffer, and the last word is 0
abbrev pub counted_words : Result FormCounts Refusal → List ℕ
counted_words (Ok c) = answer_words 0 zero_location (pos 0) 0 0
counted_words (Err r) = let n = numbered r in answer_words n.number n.location n.a n.b 0

-- how many bytes the counts have: four numbers of eight bytes
abbrev pub form_count_bytes : ℕ
form_count_bytes = 32

abbrev pub form_counts : FormCounts → List ℕ
form_counts c = le64_bytes c.addiu ++ le64_bytes c.ori ++ le64_bytes c.lui ++ le64_bytes c.both

-- the counts' bytes after the call: a refused range leaves them as they were
abbrev pub form_counts_after : Result FormCounts Refusal → List ℕ → List ℕ
form_counts_after (Ok c) counts = append counts 0 (form_counts c)
form_counts_after (Err r) counts = counts

pub record LinkedCount : Type 0 where
  pub result : ℕ
  pub counts : List ℕ
  pub answer : List ℕ

abbrev pub count_answered : Result FormCounts Refusal → (counts answer : List ℕ) → LinkedCount
count_answered given counts answer =
    let words = counted_words given in
    record { result = number_of words; counts = form_counts_after given counts; answer = append answer 0 (words_as_bytes words) }

-- if the answer has fewer than 24 bytes, or the counts fewer than 32, nothing is done
unfoldable pub linked_count : (start end : ℕ) (counts answer : List ℕ) → LinkedCount
linked_count start end counts answer =
    elim (leb answer_bytes (length answer) && leb form_count_bytes (length counts)) [
      | true ↦ count_answered (count_forms start end) counts answer
      | false ↦ record { result = too_short; counts = counts; answer = answer }
    ]
