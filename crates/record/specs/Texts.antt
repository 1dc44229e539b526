-- Texts as bytes. Assumes nothing.
use Rattle.std.specs.Prelude.{ℕ, List, [], ◌∷◌}
use Prim.Native.Char.{code}
use Prim.Native.String.{String, [] as empty, ◌∷◌ as ◌then◌}

-- the bytes of a text; its characters are ASCII
abbrev pub bytes_of : String → List ℕ
bytes_of empty = []
bytes_of (c then s) = code c ∷ bytes_of s
