-- The longest start of a text whose bytes all pass a test. Assumes nothing.
use Rattle.std.specs.Prelude.{ℕ, List, [], ◌∷◌, Bool, true, false, not, ◌&&◌, eqb}
use Rattle.record.specs.Bytes.{is_text}

unfoldable pub leading : (ℕ → Bool) → List ℕ → List ℕ
leading p [] = []
leading p (b ∷ s) = elim (p b) [ true ↦ b ∷ leading p s | false ↦ [] ]

-- a byte that a text may have, other than its `end`
abbrev pub plain : (end : ℕ) → ℕ → Bool
plain end b = is_text b && not (eqb b end)
