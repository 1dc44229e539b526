-- The tokens of a text, one after the other, up to the first fault (document 02, P7). Assumes nothing.
use Rattle.std.specs.Prelude.{ℕ, zero, suc, ◌+◌, ◌-◌, ◌≤◌, List, [], ◌∷◌, true, false, ◌≡◌, length, ltb}
use Rattle.record.specs.declared.Location.{Location}
use Rattle.refusal.specs.declared.Refusal.{Refusal}
use Rattle.refusal.specs.declared.Refusal.TheVariants.{BadByte as Refusal21, BadToken as Refusal22}
use Rattle.lexer.specs.declared.Token.{Token as TokenRead}
use Rattle.text_pieces.specs.Pieces.{piece_at}
use Rattle.text_pieces.specs.declared.Piece.{Piece}
use Rattle.text_pieces.specs.declared.Piece.TheVariants.{Blank, Token, BadByte, BadToken}

pub data Reading : Type 0 where
  End : Reading
  Next : TokenRead → Reading → Reading
  Fault : Refusal → Reading

-- "A location's index is the byte place of the token's first byte"; "the caller gives the source"
abbrev pub location_of : (source at : ℕ) → Location
location_of source at = record { source = source; index = at }

-- by the piece at a location: skips a blank, reads a token, or ends at a fault; `rest` gives the reading that many bytes further on
abbrev pub go_on : Location → Piece → (rest : ℕ → Reading) → Reading
go_on l Blank rest = rest 1
go_on l (Token kind size) rest = Next (record { location = l; kind = kind }) (rest size)
go_on l BadByte rest = Fault (Refusal21 l)
go_on l BadToken rest = Fault (Refusal22 l)

-- reads at most `fuel` pieces, from `at` on
unfoldable pub reading_f : (fuel source : ℕ) → (text : List ℕ) → (at : ℕ) → Reading
unfolding piece_at
reading_f zero source text at = End
reading_f (suc f) source text at =
    elim (ltb at (length text)) [ false ↦ End | true ↦ go_on (location_of source at) (piece_at text at) (λ size. reading_f f source text (at + size)) ]

-- each piece has a byte, so a text has no more pieces than bytes
unfoldable pub reading_from : (source : ℕ) → (text : List ℕ) → (at : ℕ) → Reading
unfolding reading_f
reading_from source text at = reading_f (length text - at) source text at

abbrev pub reading : (source : ℕ) → (text : List ℕ) → Reading
reading source text = reading_from source text 0

-- the tokens that were read
abbrev pub tokens_of : Reading → List TokenRead
tokens_of End = []
tokens_of (Next t r) = t ∷ tokens_of r
tokens_of (Fault r) = []

-- no token is read from there on: the text ends, or a fault stands there
pub data Ends (text : List ℕ) (at : ℕ) : Type 0 where
  text_ends : length text ≤ at → Ends text at
  bad_byte : piece_at text at ≡ BadByte → Ends text at
  bad_token : piece_at text at ≡ BadToken → Ends text at
