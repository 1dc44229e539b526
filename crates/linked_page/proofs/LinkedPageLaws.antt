-- Laws of the linked call for a page: an answer buffer that is too short, and an answered call. Assumes nothing.
use Rattle.std.specs.Prelude.{ℕ, ◌≤◌, ◌<◌, ◌≡◌, List, length, refl, Err, Ok, Result}
use Rattle.std.proofs.Common.{le-leb}
use Rattle.std.proofs.lemmas.Bool.{lt-leb}
use Rattle.record.specs.Stores.{append}
use Rattle.linked_answer.specs.Words.{answer_bytes, too_short, answered_words, number_of, words_as_bytes}
use Rattle.page_outcome.specs.Outcome.{page_outcome}
use Rattle.linked_page.specs.LinkedPage.{page_words, linked_page}
use Rattle.refusal.specs.declared.Refusal.{Refusal}

-- The answer gives one number, and these are its words.
pub words_are : (answer : Result ℕ Refusal) → answered_words answer ≡ page_words answer
words_are (Ok last) = refl
words_are (Err r) = refl

module _ (labels regions page answer : List ℕ) where
  pub page_short : length answer < answer_bytes → linked_page labels regions page answer ≡ (record { result = too_short; page = page; answer = answer })
  unfolding linked_page
  page_short h = rw (lt-leb answer_bytes (length answer) h, linked_page)

  pub page_answered_lem : {given : (Result ℕ Refusal)} {words page' answer' : List ℕ} → answer_bytes ≤ length answer
      → page_outcome labels regions page ≡ (record { answer = given; page = page' }) → words ≡ page_words given → answer' ≡ append answer 0 (words_as_bytes words)
      → linked_page labels regions page answer ≡ (record { result = number_of words; page = page'; answer = answer' })
  unfolding linked_page
  page_answered_lem h o w a = rw (le-leb answer_bytes (length answer) h, linked_page, a, w, o)
