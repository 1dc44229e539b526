-- Laws of a text piece: it fits, is too long, or has a byte that no text may have. Assumes nothing.
use Rattle.std.specs.Prelude.{ℕ, ◌-◌, ◌≤◌, ◌<◌, List, true, false, ◌≡◌, length, take, drop}
use Rattle.std.proofs.Common.{arith, sym, ap, ◌∙◌, length-drop, take_all, le-leb}
use Rattle.std.proofs.lemmas.Bool.{lt-leb}
use Rattle.record.specs.Bytes.{is_text, all}
use Rattle.lexer.specs.declared.Text.{Text}
use Rattle.lexer.specs.declared.TokenKind.{TokenKind}
use Rattle.text_pieces.specs.Pieces.{text_piece}
use Rattle.text_pieces.specs.declared.Piece.TheVariants.{Token, BadByte, BadToken}

-- The rest of a text from a place on.
pub rest : (s : List ℕ) (at : ℕ) → take (length s - at) (drop at s) ≡ drop at s
rest s at = take_all (length s - at) (drop at s) (omega (arith, length-drop at s))

pub length_rest : (s : List ℕ) (at : ℕ) → length (take (length s - at) (drop at s)) ≡ length s - at
length_rest s at = ap length (rest s at) ∙ length-drop at s

-- ---- a text that fits, is too long, or has a byte that no text may have
module _ (kind : Text → TokenKind) (start : ℕ) (text : List ℕ) (size : ℕ) where
  pub fits : all is_text text ≡ true → length text ≤ 64 → text_piece kind start text size ≡ Token (kind (record { start = start; len = length text })) size
  unfolding text_piece
  fits e h = rw (e, text_piece) (rw (le-leb (length text) 64 h))

  pub long : all is_text text ≡ true → 64 < length text → text_piece kind start text size ≡ BadToken
  unfolding text_piece
  long e h = rw (e, text_piece) (rw (lt-leb (length text) 64 h))

  pub bad : all is_text text ≡ false → text_piece kind start text size ≡ BadByte
  unfolding text_piece
  bad e = rw (e, text_piece)

-- The same, with the bytes counted.
module _ (kind : Text → TokenKind) (start : ℕ) (text : List ℕ) (size : ℕ → ℕ) (n : ℕ) (e : n ≡ length text) (t : all is_text text ≡ true) where
  pub counted_fits : n ≤ 64 → Token (kind (record { start = start; len = n })) (size n) ≡ text_piece kind start text (size (length text))
  counted_fits h = ap (λ (m : ℕ). Token (kind (record { start = start; len = m })) (size m)) e ∙ sym (fits kind start text (size (length text)) t (omega arith))

  pub counted_long : 64 < n → BadToken ≡ text_piece kind start text (size (length text))
  counted_long h = sym (long kind start text (size (length text)) t (omega arith))
