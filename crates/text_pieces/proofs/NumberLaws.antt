-- Laws of the pieces that are numbers, and of a piece by its class. Assumes nothing.
use Rattle.std.specs.Prelude.{ℕ, ◌+◌, ◌-◌, ◌≤◌, List, Bool, true, false, ◌≡◌, refl, length, take, drop, ltb, Option, Some}
use Rattle.std.proofs.Common.{arith, sym, ap, ◌∙◌, eq-eqb, ne_eqb, eqb-true, ltb-true, ltb-false}
use Rattle.std.proofs.Math.Bool.{and-eq-true_iff}
use Rattle.std.proofs.Math.ListN.{get_or-eq_default}
use Rattle.record.specs.Bytes.{byte_at}
use Rattle.lexer.specs.declared.TokenKind.TheVariants.{IntegerLiteral}
use Rattle.byte_class.specs.Class.{is, class_of}
use Rattle.byte_class.specs.declared.Class.{Class}
use Rattle.text_pieces.specs.Numbers.{number_in}
use Rattle.text_pieces.specs.Pieces.{decimal_piece, hexadecimal_piece, starts_hexadecimal, number_at, piece_of, piece_at}
use Rattle.text_pieces.proofs.TextLaws.{rest}
use Rattle.text_pieces.specs.declared.Piece.TheVariants.{Token, BadToken}

-- ---- whether `0x` stands there
module _ (s : List ℕ) (at : ℕ) where
  pub hex_none : (byte_at s at ≡ 48 → ⊥) → false ≡ starts_hexadecimal s at
  hex_none d = rw (ne_eqb (byte_at s at) 48 d)

  pub hex_by : byte_at s at ≡ 48 → is "x" (byte_at s (at + 1)) ≡ starts_hexadecimal s at
  hex_by e = rw (eq-eqb (byte_at s at) 48 e)

  pub hex_cut : byte_at s at ≡ 48 → length s ≤ at + 1 → false ≡ starts_hexadecimal s at
  hex_cut e l = sym (ap (is "x") (get_or-eq_default s 0 l)) ∙ hex_by e

  pub hex_within : starts_hexadecimal s at ≡ true → at + 2 ≤ length s
  hex_within e = go (ltb (at + 1) (length s)) refl
    where
      go : (t : Bool) → ltb (at + 1) (length s) ≡ t → at + 2 ≤ length s
      go true f = omega (arith, ltb-true (at + 1) (length s) f)
      go false f =
          let z = get_or-eq_default s 0 (ltb-false (at + 1) (length s) f) in
          absurd (omega (arith, eqb-true (byte_at s (at + 1)) 120 ((and-eq-true_iff (is "0" (byte_at s at)) (is "x" (byte_at s (at + 1)))).0 e).1))

  pub number_hex : starts_hexadecimal s at ≡ true → hexadecimal_piece (number_in 16 (drop (at + 2) s)) ≡ number_at s at
  unfolding number_at
  number_hex e = rw (e, number_at)

  pub number_decimal : starts_hexadecimal s at ≡ false → decimal_piece (number_in 10 (drop at s)) ≡ number_at s at
  unfolding number_at
  number_decimal e = rw (e, number_at)

-- ---- the number that was read
pub number_read : (base : ℕ) (s : List ℕ) (start : ℕ) (m met : Option (ℕ × ℕ)) → m ≡ number_in base (take (length s - start) (drop start s)) → m ≡ met → met ≡ number_in base (drop start s)
number_read base s start m met e f = sym f ∙ e ∙ ap (number_in base) (rest s start)

pub hex_empty : (value n : ℕ) → n ≡ 0 → BadToken ≡ hexadecimal_piece (Some (value, n))
hex_empty value n e = rw (eq-eqb n 0 e, hexadecimal_piece)

pub hex_some : (value n : ℕ) → (n ≡ 0 → ⊥) → Token (IntegerLiteral value) (n + 2) ≡ hexadecimal_piece (Some (value, n))
hex_some value n d = rw (ne_eqb n 0 d, hexadecimal_piece)

-- ---- by the class
pub piece_is : (s : List ℕ) (at : ℕ) (k met : Class) → k ≡ class_of (byte_at s at) → k ≡ met → piece_of met s at ≡ piece_at s at
unfolding piece_at
piece_is s at k met e f = ap (λ (x : Class). piece_of x s at) (sym f ∙ e)
