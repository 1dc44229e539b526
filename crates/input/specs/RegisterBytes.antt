-- The "32 registers" of a dry run (document 02, P10) as bytes, four each. Assumes nothing.
use Rattle.std.specs.Prelude.{ℕ, zero, suc, ◌+◌, List, [], ◌∷◌}
use Rattle.input.specs.Input.{word_or_zero}

-- reads `count` numbers in a row, from `at` on
unfoldable pub words_in : (count : ℕ) → List ℕ → (at : ℕ) → List ℕ
words_in zero s at = []
words_in (suc n) s at = word_or_zero s at ∷ words_in n s (at + 4)

abbrev pub registers_in : List ℕ → List ℕ
registers_in s = words_in 32 s 0
