-- A call's arguments by their places. Assumes nothing.
use Rattle.std.specs.Prelude.{ℕ, ◌+◌, ◌≤◌, ◌<◌, List, map, true, false, ◌||◌, ◌≡◌, length, get_or, take, set, ltb, eqb}
use Rattle.written_out.specs.Written.{arguments}
use Rattle.written_out.specs.Walk.{line_of}
use Rattle.macro_tokens.specs.declared.Body.{Body}
use Rattle.macro_tokens.specs.declared.Taken.{Taken}
use Rattle.macro_tokens.specs.Places.{token_record, TokenIn, read_from}

-- adds one argument; from the ninth on, arguments are only counted
abbrev pub with_one : Taken → (place : ℕ) → Taken
with_one t p = record { count = t.count + 1; args = elim (ltb t.count 8) [ true ↦ set t.args t.count p | false ↦ t.args ] }

-- takes one more token; Comma and Comment are not arguments
unfoldable pub with_token : Taken → (kind place : ℕ) → Taken
with_token t kind p = elim (eqb kind 11 || eqb kind 0) [ true ↦ t | false ↦ with_one t p ]

-- the arguments of a call whose name is the token before `at`
abbrev pub arguments_from : (text macros list : List ℕ) → Body → (at : ℕ) → List (List ℕ)
arguments_from text macros list b at = arguments (line_of (read_from text macros list b at))

-- t holds the arguments `given`, by their places
pub record Takes (text macros : List ℕ) (t : Taken) (given : List (List ℕ)) : Type 0 where
  pub eight : length t.args ≡ 8
  pub counted : t.count ≡ length given
  pub held : t.count ≤ 8 → map (token_record text macros) (take t.count t.args) ≡ given
  pub each_in : (i : ℕ) → i < t.count → i < 8 → TokenIn text macros (get_or t.args i 0)
