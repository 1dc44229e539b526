-- Laws of the linked call for a text: an answer buffer that is too short, and an answered call. Assumes nothing.
use Rattle.std.specs.Prelude.{ℕ, ◌≤◌, ◌<◌, ◌≡◌, List, length, refl, Err, Ok, Result}
use Rattle.std.proofs.Common.{le-leb}
use Rattle.std.proofs.lemmas.Bool.{lt-leb}
use Rattle.record.specs.Stores.{append}
use Rattle.linked_answer.specs.Words.{answer_bytes, too_short, answered_words, number_of, words_as_bytes}
use Rattle.text_reader.specs.Outcome.{read_text}
use Rattle.linked_text.specs.LinkedText.{read_words, linked_text}
use Rattle.refusal.specs.declared.Refusal.{Refusal}

-- The answer gives one number, and these are its words.
pub words_are : (answer : Result ℕ Refusal) → answered_words answer ≡ read_words answer
words_are (Ok last) = refl
words_are (Err r) = refl

module _ (text : List ℕ) (source : ℕ) (tokens answer : List ℕ) where
  pub text_short : length answer < answer_bytes → linked_text text source tokens answer ≡ (record { result = too_short; tokens = tokens; answer = answer })
  unfolding linked_text
  text_short h = rw (lt-leb answer_bytes (length answer) h, linked_text)

  pub text_answered_lem : {given : (Result ℕ Refusal)} {words tokens' answer' : List ℕ} → answer_bytes ≤ length answer
      → read_text text source tokens ≡ (record { answer = given; tokens = tokens' }) → words ≡ read_words given → answer' ≡ append answer 0 (words_as_bytes words)
      → linked_text text source tokens answer ≡ (record { result = number_of words; tokens = tokens'; answer = answer' })
  unfolding linked_text
  text_answered_lem h o w a = rw (le-leb answer_bytes (length answer) h, linked_text, a, w, o)
