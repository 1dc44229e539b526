-- What holds of the tokens of a text, from each place on. Assumes nothing.
use Rattle.std.specs.Prelude.{ℕ, zero, suc, ◌+◌, ◌≤◌, ◌<◌, List, [], ◌∷◌, ◌++◌, Bool, true, false, ◌≡◌, refl, length, ltb}
use Rattle.std.proofs.Common.{arith, sym, ap, subst, ltb-true, ltb-false}
use Rattle.lexer.specs.declared.Token.{Token as TokenRead}
use Rattle.lexer.specs.declared.TokenKind.{TokenKind}
use Rattle.token_bytes.specs.TokenBytes.{token_bytes}
use Rattle.token_bytes.proofs.Written.{list_bytes}
use Rattle.text_pieces.specs.Pieces.{piece_at}
use Rattle.text_pieces.specs.declared.Piece.{Piece}
use Rattle.text_pieces.specs.declared.Piece.TheVariants.{Blank, Token, BadByte, BadToken}
use Rattle.text_reader.specs.Reading.{Reading, End, Next, Fault, location_of, go_on, reading_from, tokens_of, Ends, text_ends, bad_byte, bad_token}
use Rattle.text_reader.proofs.ReadingLaws.{reading_end, reading_step}
use Rattle.text_reader.proofs.FitLaws.{Good, Stands, piece_good}
use Rattle.text_reader.specs.Outcome.{bytes_of}

-- Induction over a text's tokens: P holds of no tokens, and stays when a blank or a token is put in front. So P holds from each place on.
module _ (source : ℕ) (text : List ℕ) (P : ℕ → List TokenRead → Type 0) (none : (at : ℕ) → Ends text at → P at [])
    (passed : (at : ℕ) (ts : List TokenRead) → piece_at text at ≡ Blank → P (at + 1) ts → P at ts)
    (read : (at : ℕ) (kind : TokenKind) (size : ℕ) (ts : List TokenRead) → at < length text → piece_at text at ≡ Token kind size → Stands text at kind size
    → P (at + size) ts → P at ((record { location = location_of source at; kind = kind }) ∷ ts)) where
  by_piece : (at : ℕ) (p : Piece) → at < length text → piece_at text at ≡ p → Good text at p → ((k : ℕ) → 1 ≤ k → P (at + k) (tokens_of (reading_from source text (at + k))))
      → P at (tokens_of (go_on (location_of source at) p (λ size. reading_from source text (at + size))))
  by_piece at Blank h e g ih = passed at (tokens_of (reading_from source text (at + 1))) e (ih 1 (omega arith))
  by_piece at (Token kind size) h e g ih =
      read at kind size (tokens_of (reading_from source text (at + size))) h e g (ih size g.least)
  by_piece at BadByte h e g ih = none at (bad_byte e)
  by_piece at BadToken h e g ih = none at (bad_token e)

  from : (n at : ℕ) → length text ≤ at + n → P at (tokens_of (reading_from source text at))
  from zero at h = subst (λ (r : Reading). P at (tokens_of r)) (sym (reading_end source text at (omega arith))) (none at (text_ends (omega arith)))
  from (suc n) at h = go (ltb at (length text)) refl (λ k l. from n (at + k) (omega arith))
    where
      go : (b : Bool) → ltb at (length text) ≡ b → ((k : ℕ) → 1 ≤ k → P (at + k) (tokens_of (reading_from source text (at + k)))) → P at (tokens_of (reading_from source text at))
      go false e ih = subst (λ (r : Reading). P at (tokens_of r)) (sym (reading_end source text at (ltb-false at (length text) e))) (none at (text_ends (ltb-false at (length text) e)))
      go true e ih =
          let l = ltb-true at (length text) e in
          subst (λ (r : Reading). P at (tokens_of r)) (sym (reading_step source text at (piece_at text at) l refl)) (by_piece at (piece_at text at) l refl (piece_good text at l) ih)

  pub tokens_all : P 0 (tokens_of (reading_from source text 0))
  tokens_all = from (length text) 0 (omega arith)

-- The records are the tokens' records.
pub bytes_are : (text : List ℕ) (r : Reading) → bytes_of text r ≡ list_bytes text (tokens_of r)
unfolding bytes_of list_bytes
bytes_are text End = refl
bytes_are text (Next t r) = ap (λ (bs : List ℕ). token_bytes text t ++ bs) (bytes_are text r)
bytes_are text (Fault x) = refl
