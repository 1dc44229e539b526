-- What the linked call for a page returns, and what it leaves in its lent buffers. Assumes nothing.
use Rattle.std.specs.Prelude.{ℕ, List, true, false, pos, length, leb, Err, Ok, Result}
use Rattle.record.specs.Stores.{append}
use Rattle.refusal.specs.Numbers.{zero_location, numbered}
use Rattle.linked_answer.specs.Words.{answer_bytes, too_short, answer_words, number_of, words_as_bytes}
use Rattle.page_outcome.specs.Outcome.{PageOutcome, page_outcome}
use Rattle.refusal.specs.declared.Refusal.{Refusal}

-- a page gives number 0 and its length as the last word (docs/DECISIONS.md); a refusal gives, like a refused build, "its number, a
-- location and numbers a and b", and the last word 0
abbrev pub page_words : Result ℕ Refusal → List ℕ
page_words (Ok length) = answer_words 0 zero_location (pos 0) 0 length
page_words (Err r) = let n = numbered r in answer_words n.number n.location n.a n.b 0

pub record LinkedPage : Type 0 where
  pub result : ℕ
  pub page : List ℕ
  pub answer : List ℕ

abbrev pub page_answered : PageOutcome → List ℕ → LinkedPage
page_answered outcome answer =
    let words = page_words outcome.answer in
    record { result = number_of words; page = outcome.page; answer = append answer 0 (words_as_bytes words) }

-- nothing is done if the answer has fewer than 24 bytes
unfoldable pub linked_page : (labels regions page answer : List ℕ) → LinkedPage
linked_page labels regions page answer =
    elim (leb answer_bytes (length answer)) [
      | true ↦ page_answered (page_outcome labels regions page) answer
      | false ↦ record { result = too_short; page = page; answer = answer }
    ]
