-- What the linked call for macros gives back and leaves in its lent buffers. Assumes nothing.
use Rattle.std.specs.Prelude.{ℕ, List, true, false, pos, length, leb, Err, Ok, Result}
use Rattle.record.specs.Stores.{append}
use Rattle.refusal.specs.Numbers.{zero_location, numbered}
use Rattle.linked_answer.specs.Words.{answer_bytes, too_short, answer_words, number_of, words_as_bytes}
use Rattle.written_out.specs.Outcome.{WriteOutOutcome, write_out_outcome}
use Rattle.refusal.specs.declared.Refusal.{Refusal}

-- a list that was written out has number 0, and its fill as the last word (docs/DECISIONS.md); a refusal has "its number, a location and
-- numbers a and b", and 0 as the last word
abbrev pub written_words : Result ℕ Refusal → List ℕ
written_words (Ok fill) = answer_words 0 zero_location (pos 0) 0 fill
written_words (Err r) = let n = numbered r in answer_words n.number n.location n.a n.b 0

pub record LinkedMacros : Type 0 where
  pub result : ℕ
  pub out : List ℕ
  pub answer : List ℕ

abbrev pub macros_answered : WriteOutOutcome → List ℕ → LinkedMacros
macros_answered outcome answer =
    let words = written_words outcome.answer in
    record { result = number_of words; out = outcome.out; answer = append answer 0 (words_as_bytes words) }

-- if the answer buffer has fewer than 24 bytes, nothing is done
unfoldable pub linked_macros : (tokens macros out answer : List ℕ) → LinkedMacros
linked_macros tokens macros out answer =
    elim (leb answer_bytes (length answer)) [
      | true ↦ macros_answered (write_out_outcome tokens macros out) answer
      | false ↦ record { result = too_short; out = out; answer = answer }
    ]
