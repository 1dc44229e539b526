-- The macros before a place in the macro list, the last first, and finding the one with a name. Assumes nothing.
use Rattle.std.specs.Prelude.{ℕ, ◌<◌, List, [], ◌∷◌, true, false, ◌≡◌, ltb}
use Rattle.record.specs.Records.{places}
use Rattle.macros.specs.Macros.{Macro, macro_of, body_at}
use Rattle.written_out.specs.Written.{no_macro, macro, called}

abbrev pub macro_at : List ℕ → ℕ → Macro
macro_at s p = macro_of (body_at s p)

-- puts the macros at those places that are before `limit` in front of `ms`, the last first
unfoldable pub above_from : List ℕ → (limit : ℕ) → (ps : List ℕ) → List Macro → List Macro
above_from s limit [] ms = ms
above_from s limit (p ∷ ps) ms = elim (ltb p limit) [ true ↦ above_from s limit ps (macro_at s p ∷ ms) | false ↦ ms ]

unfoldable pub above : List ℕ → (limit : ℕ) → List Macro
unfolding above_from places
above s limit = above_from s limit (places s) []

-- k is the place of the macro with the name among those before `at`, or `limit` if there is none
pub data Found (s name : List ℕ) (limit at k : ℕ) : Type 0 where
  missing : k ≡ limit → called name (above s at) ≡ no_macro → Found s name limit at k
  found : k < limit → called name (above s at) ≡ macro (macro_at s k) (above s k) → Found s name limit at k
