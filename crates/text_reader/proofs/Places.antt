-- Where the tokens of a text stand (document 02, P7: "A location's index is the byte place of the token's first byte"). Assumes nothing.
use Rattle.std.specs.Prelude.{ℕ, ◌+◌, ◌≤◌, List, [], ◌∷◌, map, ◌≡◌, length}
use Rattle.std.proofs.Common.{arith}
use Rattle.lexer.specs.declared.Token.{Token as TokenRead}
use Rattle.lexer.specs.declared.TokenKind.{TokenKind}
use Rattle.text_pieces.specs.Pieces.{piece_at}
use Rattle.text_pieces.specs.declared.Piece.TheVariants.{Blank, Token}
use Rattle.text_reader.specs.Reading.{Ends, location_of, reading, tokens_of}
use Rattle.text_reader.proofs.TokensLaws.{tokens_all}

-- The tokens from `at` on. A blank is passed over. A token stands at its index, with the caller's source, and the next begins behind its bytes.
-- The list ends only where the text ends or a fault stands. So only blanks are left out.
pub data InOrder (source : ℕ) (text : List ℕ) : ℕ → List TokenRead → Type 0 where
  none : {at : ℕ} → Ends text at → InOrder source text at []
  blank : {at : ℕ} {ts : List TokenRead} → piece_at text at ≡ Blank → InOrder source text (at + 1) ts → InOrder source text at ts
  next : {at size : ℕ} {kind : TokenKind} {ts : List TokenRead} → piece_at text at ≡ Token kind size → at + size ≤ length text → InOrder source text (at + size) ts
      → InOrder source text at ((record { location = location_of source at; kind = kind }) ∷ ts)

pub in_order : (source : ℕ) (text : List ℕ) → InOrder source text 0 (tokens_of (reading source text))
in_order source text =
    tokens_all source text (InOrder source text) (λ at n. none n) (λ at ts e o. blank e o)
    (λ at kind size ts h e stands o. next e stands.within o)

-- Each number is greater than the one before.
abbrev pub Rising : (least : ℕ) → List ℕ → Type 0
Rising least [] = Unit {0}
Rising least (n ∷ ns) = (least ≤ n) × Rising (n + 1) ns

lower : (a b : ℕ) (ns : List ℕ) → a ≤ b → Rising b ns → Rising a ns
lower a b [] h r = tt
lower a b (n ∷ ns) h r = (omega (arith, r.0), r.1)

abbrev pub place : TokenRead → ℕ
place t = t.location.index

pub places_rise : (source : ℕ) (text : List ℕ) → Rising 0 (map place (tokens_of (reading source text)))
places_rise source text =
    tokens_all source text (λ at ts. Rising at (map place ts)) (λ at n. tt) (λ at ts b r. lower at (at + 1) (map place ts) (omega arith) r)
    (λ at kind size ts h e stands r. (omega arith, lower (at + 1) (at + size) (map place ts) (omega (arith, stands.least)) r))
