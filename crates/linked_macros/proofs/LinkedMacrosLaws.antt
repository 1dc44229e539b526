-- Laws of the linked call for macros: an answer buffer that is too short, and an answered call. Assumes nothing.
use Rattle.std.specs.Prelude.{ℕ, ◌≤◌, ◌<◌, ◌≡◌, List, length, refl, Err, Ok, Result}
use Rattle.std.proofs.Common.{le-leb}
use Rattle.std.proofs.lemmas.Bool.{lt-leb}
use Rattle.record.specs.Stores.{append}
use Rattle.linked_answer.specs.Words.{answer_bytes, too_short, answered_words, number_of, words_as_bytes}
use Rattle.written_out.specs.Outcome.{write_out_outcome}
use Rattle.linked_macros.specs.LinkedMacros.{written_words, linked_macros}
use Rattle.refusal.specs.declared.Refusal.{Refusal}

-- The answer gives one number, and these are its words.
pub words_are : (answer : Result ℕ Refusal) → answered_words answer ≡ written_words answer
words_are (Ok last) = refl
words_are (Err r) = refl

module _ (tokens macros out answer : List ℕ) where
  pub macros_short : length answer < answer_bytes → linked_macros tokens macros out answer ≡ (record { result = too_short; out = out; answer = answer })
  unfolding linked_macros
  macros_short h = rw (lt-leb answer_bytes (length answer) h, linked_macros)

  pub macros_answered_lem : {given : (Result ℕ Refusal)} {words out' answer' : List ℕ} → answer_bytes ≤ length answer
      → write_out_outcome tokens macros out ≡ (record { answer = given; out = out' }) → words ≡ written_words given → answer' ≡ append answer 0 (words_as_bytes words)
      → linked_macros tokens macros out answer ≡ (record { result = number_of words; out = out'; answer = answer' })
  unfolding linked_macros
  macros_answered_lem h o w a = rw (le-leb answer_bytes (length answer) h, linked_macros, a, w, o)
