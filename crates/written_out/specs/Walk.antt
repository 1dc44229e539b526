-- Writing out token by token: what is done with each token, by where it stands on its line. Assumes nothing.
use Rattle.std.specs.Prelude.{ℕ, ◌||◌}
use mathlib.Core.List.{List, [], ◌∷◌, ◌++◌}
use Rattle.std.proofs.Math.Bool.{true, false}
use Rattle.record.specs.Bytes.{location_at}
use Rattle.lexer.specs.Tokens.{text_of}
use Rattle.line_heads.specs.Lines.{is_comment, is_symbol, is_new_line, starts_colon}
use Rattle.macros.specs.Macros.{Macro}
use Rattle.written_out.specs.declared.Mode.{Mode}
use Rattle.written_out.specs.declared.Mode.TheVariants.{Leading, Labelled, Copied, LeftOut}
use Rattle.written_out.specs.Written.{Step, write, Called, no_macro, macro, Replacing, arguments, called}

-- the tokens up to NewLine or the end
unfoldable pub line_of : List (List ℕ) → List (List ℕ)
line_of [] = []
line_of (t ∷ ts) = elim (is_new_line t) [ true ↦ [] | false ↦ t ∷ line_of ts ]

module _ (replace : Replacing) (macros : List Macro) where
  abbrev pub walk_call : Called → (t : List ℕ) → (line : List (List ℕ)) → (copy skip : List Step) → List Step
  walk_call no_macro t line copy skip = write t ∷ copy
  walk_call (macro m above) t line copy skip = replace (location_at t 4) m above (arguments line) ++ skip

  unfoldable pub walk : Mode → List (List ℕ) → List Step
  unfolding called line_of arguments
  walk mode [] = []
  walk mode (t ∷ ts) =
      elim mode [
        | Leading ↦ elim (is_new_line t || is_comment t) [
          | true ↦ write t ∷ walk Leading ts
          | false ↦ elim (is_symbol t) [
            | true ↦ elim (starts_colon ts) [
              | true ↦ write t ∷ walk Labelled ts
              | false ↦ walk_call (called (text_of t 0) macros) t (line_of ts) (walk Copied ts) (walk LeftOut ts)
            ]
            | false ↦ write t ∷ walk Copied ts
          ]
        ]
        | Labelled ↦ write t ∷ walk Leading ts
        | Copied ↦ write t ∷ (elim (is_new_line t) [ true ↦ walk Leading ts | false ↦ walk Copied ts ])
        | LeftOut ↦ elim (is_new_line t) [ true ↦ write t ∷ walk Leading ts | false ↦ walk LeftOut ts ]
      ]
