-- Laws of the linked call for a lookup: an answer buffer that is too short, and an answered call. Assumes nothing.
use Rattle.std.specs.Prelude.{ℕ, ◌≤◌, ◌<◌, ◌≡◌, List, length, Result}
use Rattle.std.proofs.Common.{le-leb}
use Rattle.std.proofs.lemmas.Bool.{lt-leb}
use Rattle.record.specs.Stores.{append}
use Rattle.linked_answer.specs.Words.{answer_bytes, too_short, number_of, words_as_bytes}
use Rattle.label_finder.specs.Find.{find_label}
use Rattle.linked_label.specs.LinkedLabel.{find_words, linked_find}
use Rattle.labels.specs.declared.Found.{Found}
use Rattle.refusal.specs.declared.Refusal.{Refusal}

module _ (labels name : List ℕ) (source : ℕ) (answer : List ℕ) where
  pub find_short : length answer < answer_bytes → linked_find labels name source answer ≡ (record { result = too_short; answer = answer })
  unfolding linked_find
  find_short h = rw (lt-leb answer_bytes (length answer) h, linked_find)

  pub find_answered_lem : {given : (Result Found Refusal)} {words answer' : List ℕ} → answer_bytes ≤ length answer → given ≡ find_label labels name source → words ≡ find_words given
      → answer' ≡ append answer 0 (words_as_bytes words) → linked_find labels name source answer ≡ (record { result = number_of words; answer = answer' })
  unfolding linked_find
  find_answered_lem h g w a = rw (le-leb answer_bytes (length answer) h, linked_find, a, w, g)
