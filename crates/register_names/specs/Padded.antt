-- The names as the table has them: four bytes each, a shorter name padded with blanks. Assumes nothing.
use Rattle.std.specs.Prelude.{ℕ, ◌+◌, ◌*◌, List, [], ◌∷◌, ◌++◌, get_or}
use Rattle.register_names.specs.RegisterNames.{names}

abbrev pub byte_or_blank : List ℕ → ℕ → ℕ
byte_or_blank name i = get_or name i 0x20

abbrev pub padded : List ℕ → List ℕ
padded name = byte_or_blank name 0 ∷ byte_or_blank name 1 ∷ byte_or_blank name 2 ∷ byte_or_blank name 3 ∷ []

abbrev pub joined : List (List ℕ) → List ℕ
joined [] = []
joined (n ∷ ns) = padded n ++ joined ns

unfoldable pub padded_names : List ℕ
unfolding names
padded_names = joined names

-- the four bytes as one number
abbrev pub key_of : List ℕ → ℕ
key_of name = byte_or_blank name 0 + 256 * byte_or_blank name 1 + 65536 * byte_or_blank name 2 + 16777216 * byte_or_blank name 3
