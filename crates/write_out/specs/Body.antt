-- The steps of writing a body out, and the records that they write. Assumes nothing.
use Rattle.std.specs.Prelude.{ℕ, ◌+◌, ◌≤◌, List, [], ◌∷◌, ◌++◌, true, false, ◌≡◌, length, leb, None}
use Rattle.record.specs.Records.{limit}
use Rattle.macros.specs.Macros.{macro_layout}
use Rattle.written_out.specs.declared.Mode.{Mode}
use Rattle.written_out.specs.Written.{Step, write, stop, replaced}
use Rattle.written_out.specs.Walk.{walk}
use Rattle.written_out.specs.Above.{above}
use Rattle.macro_tokens.specs.declared.Body.{Body}
use Rattle.macro_tokens.specs.Places.{read_from, ReadableFrom}

-- the body's steps from `at` on; it may call macros before the place `most`, and calls may nest `levels` deep
abbrev pub steps_from : (text macros : List ℕ) → (most levels : ℕ) → (list : List ℕ) → Body → Mode → (at : ℕ) → List Step
steps_from text macros most levels list b mode at = walk (replaced levels) (above macros most) mode (read_from text macros list b at)

-- what holds for a body to be written out
pub record Ready (text macros : List ℕ) (most : ℕ) (list : List ℕ) (b : Body) : Type 0 where
  pub readable : ReadableFrom text macros list b b.start
  pub macros_good : macro_layout macros ≡ None
  pub most_in : most ≤ length macros
  pub text_small : length text ≤ limit

-- the records that are written before the first refusal
unfoldable pub written_from : (room fill : ℕ) → List Step → List ℕ
written_from room fill [] = []
written_from room fill (write t ∷ steps) = elim (leb (fill + length t) room) [ true ↦ t ++ written_from room (fill + length t) steps | false ↦ [] ]
written_from room fill (stop r ∷ steps) = []
