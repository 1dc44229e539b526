-- Tokens by their places: a place in the token list, or that list's length plus a place in the macro list. Assumes nothing.
use Rattle.std.specs.Prelude.{ℕ, ◌+◌, ◌-◌, ◌*◌, ◌≤◌, ◌<◌, List, [], map, Bool, true, false, ◌≡◌, length, get_or, ltb, eqb, None}
use Rattle.record.specs.Bytes.{all}
use Rattle.record.specs.Records.{kind_at, places_from, first_bad, limit}
use Rattle.lexer.specs.Tokens.{text_of, token_ok, TokenIs}
use Rattle.line_heads.specs.Lines.{record_at}
use Rattle.macros.specs.Macros.{name_at, name_ok, name_places, index_of}
use Rattle.macro_tokens.specs.declared.Body.{Body}

-- the record at a place
unfoldable pub token_record : (text macros : List ℕ) → (place : ℕ) → List ℕ
token_record text macros p = elim (ltb p (length text)) [ true ↦ record_at text p | false ↦ record_at macros (p - length text) ]

-- a token stands at place p
pub record TokenIn (text macros : List ℕ) (p : ℕ) : Type 0 where
  pub in_text : p < length text → TokenIs text p
  pub in_macros : length text ≤ p → TokenIs macros (p - length text)

-- the bytes if they are really written, else none
abbrev pub only : (really : Bool) → List ℕ → List ℕ
only true bytes = bytes
only false bytes = []

-- ---- a body with its arguments put in

abbrev pub parameters_in : List ℕ → Body → List (List ℕ)
parameters_in list b = map (name_at list) (name_places b.count list b.names)

abbrev pub number_at : List ℕ → Body → ℕ → ℕ
number_at list b at = index_of (text_of list at) (parameters_in list b)

-- the place of the token at `at` in the body's list, or of the argument that is put in for it
unfoldable pub place_of : (list : List ℕ) → Body → (at : ℕ) → ℕ
unfolding index_of name_places
place_of list b at =
    elim (eqb (kind_at list at) 2) [
      | true ↦ elim (ltb (number_at list b at) b.count) [ true ↦ get_or b.args (number_at list b at) 0 | false ↦ b.base + at ]
      | false ↦ b.base + at
    ]

-- the body's tokens from `at` on
unfoldable pub read_from : (text macros list : List ℕ) → Body → (at : ℕ) → List (List ℕ)
unfolding token_record place_of places_from
read_from text macros list b at = map (λ (p : ℕ). token_record text macros (place_of list b p)) (places_from list at)

-- ---- what holds for a body being read

pub record Readable (list : List ℕ) (b : Body) : Type 0 where
  pub names_ok : all (name_ok list) (name_places b.count list b.names) ≡ true
  pub few : b.count ≤ 8
  pub eight : length b.args ≡ 8
  pub low : b.base + length list ≤ 2 * limit

-- the same where its list is read from `at` on
pub record ReadableFrom (text macros list : List ℕ) (b : Body) (at : ℕ) : Type 0 where
  pub readable : Readable list b
  pub args_in : (i : ℕ) → i < b.count → TokenIn text macros (get_or b.args i 0)
  pub own_in : (p : ℕ) → p < length list → TokenIs list p → TokenIn text macros (b.base + p)
  pub own_is : (p : ℕ) → p < length list → TokenIs list p → token_record text macros (b.base + p) ≡ record_at list p
  pub good : first_bad (token_ok list) (places_from list at) ≡ None
