-- Positions in a decoded token list (cursor.rs). Assumes nothing.
use Rattle.std.specs.Prelude.{ℕ, suc, ◌+◌, min, List, [], ◌∷◌, Bool, true, false, not, ◌&&◌, length, get_or, drop, ltb, eqb, None, Option, Some}
use Rattle.record.specs.Records.{places}
use Rattle.lexer.specs.declared.Token.{Token}
use Rattle.lexer.specs.declared.TokenKind.{TokenKind}
use Rattle.lexer.specs.declared.TokenKind.TheVariants.{NewLine}
use Rattle.lexer.specs.Tokens.{strip}
use Rattle.cursor.specs.declared.Cursor.{Cursor}

-- an answer, and the index where reading goes on
pub record At (A : Type 0) : Type 0 where
  pub answer : A
  pub index : ℕ

-- "Operand reading passes over Comment and Comma only."
abbrev pub is_adjacent_kind : TokenKind → Bool
is_adjacent_kind k = not (eqb (strip k) 0) && not (eqb (strip k) 11)

-- how many tokens are passed over before the first that is not
unfoldable pub passed : List Token → ℕ
passed [] = 0
passed (t ∷ ts) = elim (is_adjacent_kind t.kind) [ true ↦ 0 | false ↦ suc (passed ts) ]

-- the index of the next token that is not passed over, or the list's end: `seek_without`
abbrev pub seek : List Token → ℕ → ℕ
seek ts i = i + passed (drop i ts)

abbrev pub no_token : Token
no_token = record { location = record { source = 0; index = 0 }; kind = NewLine }

-- the token at an index
unfoldable pub peek : List Token → ℕ → Option Token
peek ts i = elim (ltb i (length ts)) [ true ↦ Some (get_or ts i no_token) | false ↦ None ]

-- the index after it: "A position is a count of tokens: the smaller of the Rust's index and the list's length."
unfoldable pub step : List Token → ℕ → ℕ
step ts i = elim (ltb i (length ts)) [ true ↦ i + 1 | false ↦ length ts ]

-- the next token that is not passed over, and the index after it
unfoldable pub next_adjacent : List Token → ℕ → At (Option Token)
unfolding peek step passed
next_adjacent ts i = record { answer = peek ts (seek ts i); index = step ts (seek ts i) }

-- the same token, and its own index
unfoldable pub peek_adjacent : List Token → ℕ → At (Option Token)
unfolding peek passed
peek_adjacent ts i = record { answer = peek ts (seek ts i); index = seek ts i }

-- an index, with its byte place in the list of records
abbrev pub cursor_at : List ℕ → ℕ → Cursor
cursor_at s i = record { index = i; at = get_or (places s) i (length s) }

-- where a call starts
abbrev pub start_index : List Token → ℕ → ℕ
start_index ts position = min position (length ts)
