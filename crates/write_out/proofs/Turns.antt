-- One turn of the loop over a body: what is done with the next token. Assumes nothing.
use Rattle.std.specs.Prelude.{ℕ, ◌≤◌, ◌<◌, List, [], ◌∷◌, ◌++◌, ◌≡◌, refl, length}
use Rattle.std.proofs.Common.{sym, ap, subst, ◌∙◌}
use Rattle.record.specs.Records.{next}
use Rattle.lexer.specs.Tokens.{TokenIs}
use Rattle.written_out.specs.declared.Mode.{Mode}
use Rattle.written_out.specs.Written.{Step, replaced}
use Rattle.written_out.specs.Walk.{walk}
use Rattle.written_out.specs.Acts.{act_of}
use Rattle.written_out.proofs.ActsLaws.{by_act, walk_act}
use Rattle.written_out.specs.Above.{above}
use Rattle.macro_tokens.specs.declared.Act.{Act}
use Rattle.macro_tokens.specs.declared.Act.TheVariants.{Write, Pass, Call}
use Rattle.macro_tokens.specs.declared.Body.{Body}
use Rattle.macro_tokens.specs.Places.{token_record, TokenIn, place_of, read_from, ReadableFrom}
use Rattle.macro_tokens.proofs.PlacesLaws.{token, read_on, read_here, read_end, place_in}
use Rattle.macro_tokens.specs.Meant.{meant, ActIs}
use Rattle.write_out.specs.Body.{steps_from}
use Rattle.write_out.specs.Calls.{act_steps, mode_after}

-- The body's token at `at`, at its place; the next one begins at `n`.
pub record Turn (text macros : List ℕ) (most : ℕ) (list : List ℕ) (b : Body) (mode : Mode) (at n place : ℕ) (act : Act) : Type 0 where
  pub rest : ReadableFrom text macros list b at
  pub inside : at < length list
  pub next_is : n ≡ next list at
  pub place_is : place ≡ place_of list b at
  pub act_is : ActIs macros most (act_of (above macros most) mode (token_record text macros place) (read_from text macros list b n)) act

module _ {text macros : List ℕ} {most : ℕ} {list : List ℕ} {b : Body} {mode : Mode} {at n place : ℕ} {act : Act} (t : Turn text macros most list b mode at n place act) where
  pub turn_token : TokenIs list at
  turn_token = token text macros list b at t.rest t.inside

  pub turn_in : TokenIn text macros place
  turn_in = subst (TokenIn text macros) (sym t.place_is) (place_in text macros list b at t.rest t.inside)

  pub turn_rest : ReadableFrom text macros list b n
  turn_rest = subst (ReadableFrom text macros list b) (sym t.next_is) (read_on text macros list b at t.rest t.inside)

  abbrev record_of : List ℕ
  record_of = token_record text macros place

  reads : read_from text macros list b at ≡ record_of ∷ read_from text macros list b n
  reads =
      read_here text macros list b at t.rest t.inside
      ∙ ap (λ (p : ℕ). token_record text macros p ∷ read_from text macros list b (next list at)) (sym t.place_is)
      ∙ ap (λ (k : ℕ). record_of ∷ read_from text macros list b k) (sym t.next_is)

  module _ (levels : ℕ) where
    abbrev steps : Mode → ℕ → List Step
    steps m i = steps_from text macros most levels list b m i

    by : (a : Act) → act ≡ a → steps mode at ≡ by_act (replaced levels) (above macros most) record_of (read_from text macros list b n) (meant macros a)
    by a e =
        ap (walk (replaced levels) (above macros most) mode) reads ∙ walk_act (replaced levels) (above macros most) record_of (read_from text macros list b n) mode
        ∙ ap (by_act (replaced levels) (above macros most) record_of (read_from text macros list b n)) (t.act_is.is ∙ ap (meant macros) e)

    split : (a : Act) → by_act (replaced levels) (above macros most) record_of (read_from text macros list b n) (meant macros a)
        ≡ act_steps text macros levels list b place n a ++ steps (mode_after a) n
    split (Write m) = refl
    split Pass = refl
    split (Call k) = refl

    pub turn_act : (a : Act) → act ≡ a → steps mode at ≡ act_steps text macros levels list b place n a ++ steps (mode_after a) n
    turn_act a e = by a e ∙ split a

-- nothing is left of the list
pub turn_end : (text macros : List ℕ) (most levels : ℕ) (list : List ℕ) (b : Body) (mode : Mode) (at : ℕ) → length list ≤ at
    → steps_from text macros most levels list b mode at ≡ []
unfolding walk
turn_end text macros most levels list b mode at h = ap (walk (replaced levels) (above macros most) mode) (read_end text macros list b at h)
