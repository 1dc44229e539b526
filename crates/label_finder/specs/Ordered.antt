-- The ordered index of a label list, as a function of the list (document 02, P13). Assumes nothing.
use Rattle.std.specs.Prelude.{ℕ, List, [], ◌∷◌, Bool, true, false}
use Rattle.record.specs.Records.{places}
use Rattle.name_sort.specs.Before.{before}

-- inserts p before the first element that it goes before
unfoldable pub put_in : (ℕ → ℕ → Bool) → ℕ → List ℕ → List ℕ
put_in le p [] = p ∷ []
put_in le p (q ∷ l) = elim (le p q) [ true ↦ p ∷ (q ∷ l) | false ↦ q ∷ put_in le p l ]

unfoldable pub ordered : (ℕ → ℕ → Bool) → List ℕ → List ℕ
unfolding put_in
ordered le [] = []
ordered le (p ∷ ps) = put_in le p (ordered le ps)

-- "an ordered index": the places of the labels by name, then by owner, then by place
abbrev pub ordered_index : List ℕ → List ℕ
ordered_index s = ordered (before 4 s) (places s)
