-- What the linked call for a text gives back and leaves in its lent buffers. Assumes nothing.
use Rattle.std.specs.Prelude.{ℕ, List, true, false, pos, length, leb, Err, Ok, Result}
use Rattle.record.specs.Stores.{append}
use Rattle.refusal.specs.Numbers.{zero_location, numbered}
use Rattle.linked_answer.specs.Words.{answer_bytes, too_short, answer_words, number_of, words_as_bytes}
use Rattle.text_reader.specs.Outcome.{TextOutcome, read_text}
use Rattle.refusal.specs.declared.Refusal.{Refusal}

-- an accepted text has number 0, and the token buffer's new fill as the last word (docs/DECISIONS.md); a refusal has "its number, a
-- location and numbers a and b", like a refused build, and 0 as the last word
abbrev pub read_words : Result ℕ Refusal → List ℕ
read_words (Ok fill) = answer_words 0 zero_location (pos 0) 0 fill
read_words (Err r) = let n = numbered r in answer_words n.number n.location n.a n.b 0

pub record LinkedText : Type 0 where
  pub result : ℕ
  pub tokens : List ℕ
  pub answer : List ℕ

abbrev pub text_answered : TextOutcome → List ℕ → LinkedText
text_answered outcome answer =
    let words = read_words outcome.answer in
    record { result = number_of words; tokens = outcome.tokens; answer = append answer 0 (words_as_bytes words) }

-- if the answer buffer has fewer than 24 bytes, nothing is done
unfoldable pub linked_text : (text : List ℕ) → (source : ℕ) → (tokens answer : List ℕ) → LinkedText
linked_text text source tokens answer =
    elim (leb answer_bytes (length answer)) [
      | true ↦ text_answered (read_text text source tokens) answer
      | false ↦ record { result = too_short; tokens = tokens; answer = answer }
    ]
