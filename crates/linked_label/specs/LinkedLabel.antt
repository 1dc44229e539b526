-- What the linked call for a lookup returns, and what it leaves in its answer. Assumes nothing.
use Rattle.std.specs.Prelude.{ℕ, List, true, false, pos, length, leb, Err, None, Ok, Option, Result, Some}
use Rattle.record.specs.Stores.{append}
use Rattle.refusal.specs.Numbers.{zero_location, numbered}
use Rattle.labels.specs.declared.Found.{Found}
use Rattle.label_finder.specs.Find.{find_label}
use Rattle.linked_answer.specs.Words.{answer_bytes, too_short, answer_words, number_of, words_as_bytes}
use Rattle.refusal.specs.declared.Refusal.{Refusal}

-- number 0; a is 1 for an address and 0 for none, b is the count of name comparisons, the last word is the address or 0 (docs/DECISIONS.md)
abbrev pub address_words : Option ℕ → (compared : ℕ) → List ℕ
address_words (Some address) compared = answer_words 0 zero_location (pos 1) compared address
address_words None compared = answer_words 0 zero_location (pos 0) compared 0

abbrev pub found_words : Found → List ℕ
found_words found = address_words found.address found.compared

-- a refusal gives "its number, a location and numbers a and b", and the last word 0
abbrev pub find_words : Result Found Refusal → List ℕ
find_words (Ok found) = found_words found
find_words (Err r) = let n = numbered r in answer_words n.number n.location n.a n.b 0

pub record LinkedFind : Type 0 where
  pub result : ℕ
  pub answer : List ℕ

abbrev pub find_answered : Result Found Refusal → List ℕ → LinkedFind
find_answered given answer = let words = find_words given in record { result = number_of words; answer = append answer 0 (words_as_bytes words) }

-- nothing is done if the answer has fewer than 24 bytes
unfoldable pub linked_find : (labels name : List ℕ) (source : ℕ) (answer : List ℕ) → LinkedFind
linked_find labels name source answer =
    elim (leb answer_bytes (length answer)) [
      | true ↦ find_answered (find_label labels name source) answer
      | false ↦ record { result = too_short; answer = answer }
    ]
