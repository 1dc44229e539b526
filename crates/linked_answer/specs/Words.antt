-- The answer of a linked call: six words. Assumes nothing.
use Rattle.std.specs.Prelude.{ℕ, ◌-◌, ◌%◌, ◌^◌, List, [], ◌∷◌, map, ℤ, pos, negsuc, get_or, Err, Ok, Result}
use Rattle.record.specs.declared.Location.{Location}
use Rattle.record.specs.Stores.{append}
use Rattle.refusal.specs.Numbers.{zero_location, numbered}
use Rattle.refusal.specs.declared.Refusal.{Refusal}
use Rattle.emit_pairs.specs.Pairs.{plain}
use Rattle.emit_bytes.specs.Appended.{word_bytes}

-- how many bytes an answer has
abbrev pub answer_bytes : ℕ
answer_bytes = 24

-- what a call returns if its answer, or another buffer of fixed length, is too short; no refusal has this number
abbrev pub too_short : ℕ
too_short = 2 ^ 32 - 1

-- a number's low 32 bits; negsuc n is -1 - n
unfoldable pub low_word : ℤ → ℕ
low_word (pos n) = n % 2 ^ 32
low_word (negsuc n) = 2 ^ 32 - 1 - n % 2 ^ 32

-- number, source, index, a, b and a last word, such as a build's entry, a line's position or a text's fill
abbrev pub answer_words : (number : ℕ) → Location → ℤ → (b last : ℕ) → List ℕ
answer_words number location a b last = number ∷ location.source ∷ location.index ∷ low_word a ∷ b ∷ last ∷ []

-- the words of an answer that has one number, as its last word; for a refusal that word is 0
abbrev pub answered_words : Result ℕ Refusal → List ℕ
answered_words (Ok last) = answer_words 0 zero_location (pos 0) 0 last
answered_words (Err r) = let n = numbered r in answer_words n.number n.location n.a n.b 0

-- the answer's number, which the call returns too
abbrev pub number_of : List ℕ → ℕ
number_of words = get_or words 0 0

-- each word as four little-endian bytes, like a line's words
abbrev pub words_as_bytes : List ℕ → List ℕ
words_as_bytes words = word_bytes (map plain words)

-- a lent buffer that an accepted call writes words to, at its start; "a refused call changes nothing" (docs/DECISIONS.md)
abbrev pub stored_if : {A E : Type 0} → Result A E → List ℕ → List ℕ → List ℕ
stored_if (Ok done) words d = append d 0 (words_as_bytes words)
stored_if (Err refused) words d = d
