-- The words of a region's data in order: `finish` (document 01) and a page for the wall (document 02, P3) have a line for each. Assumes nothing.
use Rattle.std.specs.Prelude.{ℕ, ◌+◌, List, [], ◌∷◌}
use Rattle.field.specs.Wrap.{wrap32}

-- a word: its pc and its bytes
pub record Row : Type 0 where
  pub pc : ℕ
  pub bytes : List ℕ

-- "pc, which is region address plus offset", wraps at 2^32
abbrev pub row : (address i : ℕ) (bytes : List ℕ) → Row
row address i bytes = record { pc = wrap32 (address + i); bytes = bytes }

-- the rows of data that begins at offset i: one for each four bytes, and one for what is left
unfoldable pub rows : (address i : ℕ) → List ℕ → List Row
rows address i [] = []
rows address i (a ∷ []) = row address i (a ∷ []) ∷ []
rows address i (a ∷ b ∷ []) = row address i (a ∷ b ∷ []) ∷ []
rows address i (a ∷ b ∷ c ∷ []) = row address i (a ∷ b ∷ c ∷ []) ∷ []
rows address i (a ∷ b ∷ c ∷ d ∷ rest) = row address i (a ∷ b ∷ c ∷ d ∷ []) ∷ rows address (i + 4) rest
