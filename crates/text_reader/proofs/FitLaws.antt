-- Each token of a text lies in the text, and its record can hold it. Assumes nothing.
use Prim.Native.Nat.{ℕ, ◌+◌, ◌≤◌, ◌<◌}
use Rattle.std.proofs.Common.{arith, sym, ap, subst, ◌∙◌, length-drop, leb-true, leb-false, lt-ltb, ltb-true, ltb-false, eqb-true}
use mathlib.Core.List.{List, [], ◌∷◌}
use Rattle.std.proofs.Math.Bool.{Bool, not}
use Rattle.std.specs.Prelude.{Option, Some, None, true, false, ◌||◌, ◌≡◌, length, drop, leb, ltb, eqb, Float}
use Rattle.std.proofs.Math.Path.{refl}
use Rattle.std.proofs.Math.ListN.{get_or-eq_default}
use Rattle.std.proofs.lemmas.Bool.{eqb-false}
use Rattle.record.specs.Bytes.{byte_at, is_text, all}
use Rattle.registers.specs.NumberLaws.{register_lt, fp_register_lt}
use Rattle.lexer.specs.Tokens.{strip}
use Rattle.lexer.specs.declared.Text.{Text}
use Rattle.lexer.specs.declared.TokenKind.{TokenKind}
use Rattle.lexer.specs.declared.TokenKind.TheVariants.{Comment, Directive, Parameter, Register, FPRegister, IntegerLiteral, FloatLiteral, StringLiteral, Symbol}
use Rattle.byte_class.specs.Class.{is, class_of, word_byte, is_word}
use Rattle.byte_class.proofs.ClassLaws.{digit_class}
use Rattle.byte_class.specs.declared.Class.{Class}
use Rattle.byte_class.specs.declared.Class.TheVariants.{Blank as BlankClass, Newline, Digit, Letter, Mark, Nothing}
use Rattle.byte_class.specs.declared.Mark.TheVariants.{Comment as CommentMark, Directive as DirectiveMark, Parameter as ParameterMark, Register as RegisterMark, StringLiteral as StringMark, Plus as PlusMark, Minus as MinusMark, Comma as CommaMark, Colon as ColonMark, LeftBrace as LeftBraceMark, RightBrace as RightBraceMark}
use Rattle.register_names.specs.RegisterNames.{register_named}
use Rattle.register_names.specs.declared.NamedRegister.{NamedRegister}
use Rattle.register_names.specs.declared.NamedRegister.TheVariants.{General, Float as FloatNamed}
use Rattle.token_bytes.specs.TokenBytes.{carried_by, carried_size, TextFits, CarriedFits}
use Rattle.token_bytes.proofs.TokenBytesLaws.{carried_most}
use Rattle.text_pieces.specs.Leading.{leading}
use Rattle.text_pieces.proofs.LeadingLaws.{leading_le, leading_take, leading_next}
use Rattle.text_pieces.specs.Numbers.{number_in, is_digit_of, digit_value}
use Rattle.text_pieces.proofs.NumbersLaws.{number_is, digit_decimal}
use Rattle.text_pieces.specs.Pieces.{text_piece, word_at, symbol_at, directive_at, if_any, parameter_at, comment_at, string_at, register_piece, register_at, decimal_piece, hexadecimal_piece, starts_hexadecimal, number_at, piece_of, piece_at}
use Rattle.text_pieces.proofs.TextLaws.{fits, long, bad}
use Rattle.text_pieces.proofs.NumberLaws.{hex_within, number_hex, number_decimal, hex_empty, hex_some}
use Rattle.text_pieces.specs.declared.Piece.{Piece}
use Rattle.text_pieces.specs.declared.Piece.TheVariants.{Blank, Token, BadByte, BadToken}

-- A token at `at`, of `size` bytes, lies in the text, and its record can hold it.
pub record Stands (s : List ℕ) (at : ℕ) (kind : TokenKind) (size : ℕ) : Type 0 where
  pub least : 1 ≤ size
  pub within : at + size ≤ length s
  pub carried_fits : CarriedFits s (carried_by kind)
  pub no_float : (x : Float) → kind ≡ FloatLiteral x → ⊥

pub stands_small : (s : List ℕ) (at : ℕ) (kind : TokenKind) (size : ℕ) → Stands s at kind size → carried_size (carried_by kind) ≤ 64
stands_small s at kind size t = carried_most s (carried_by kind) t.carried_fits

abbrev pub Good : List ℕ → ℕ → Piece → Type 0
Good s at Blank = Unit {0}
Good s at (Token kind size) = Stands s at kind size
Good s at BadByte = Unit {0}
Good s at BadToken = Unit {0}

-- A kind with another number than a float's is no float.
other : (kind : TokenKind) → (strip kind ≡ 6 → ⊥) → (x : Float) → kind ≡ FloatLiteral x → ⊥
other kind d x e = d (ap strip e)

one : (s : List ℕ) (at : ℕ) (kind : TokenKind) → at < length s → CarriedFits s (carried_by kind) → (strip kind ≡ 6 → ⊥) → Good s at (Token kind 1)
one s at kind h f d = record { least = omega arith; within = omega arith; carried_fits = f; no_float = other kind d }

-- ---- texts
module _ (s : List ℕ) (at start size : ℕ) (p : ℕ → Bool) (kind : Text → TokenKind) (b : start ≤ length s) (d : (t : Text) → strip (kind t) ≡ 6 → ⊥) where
  abbrev text : List ℕ
  text = leading p (drop start s)

  abbrev place : Text
  place = record { start = start; len = length text }

  text_good : (TextFits s place → CarriedFits s (carried_by (kind place))) → 1 ≤ size → at + size ≤ length s → Good s at (text_piece kind start text size)
  text_good carries l w = go (all is_text text) refl (leb (length text) 64) refl
    where
      go : (t : Bool) → all is_text text ≡ t → (u : Bool) → leb (length text) 64 ≡ u → Good s at (text_piece kind start text size)
      go false e u f = subst (Good s at) (sym (bad kind start text size e)) tt
      go true e false f = subst (Good s at) (sym (long kind start text size e (leb-false (length text) 64 f))) tt
      go true e true f =
          let m = leb-true (length text) 64 f in
          let n = leading_le p (drop start s) in
          let g : TextFits s place = record {
            within = omega (arith, length-drop start s);
            most = m;
            text = ap (all is_text) (leading_take p (drop start s)) ∙ e;
          } in
          subst (Good s at) (sym (fits kind start text size e m)) (record { least = l; within = w; carried_fits = carries g; no_float = other (kind place) (d place) })

-- a word begins with a letter or a digit
some_word : (s : List ℕ) (at : ℕ) → at < length s → word_byte (byte_at s at) ≡ true → 1 ≤ length (word_at s at)
some_word s at h e = omega (arith, ap length (leading_next word_byte s at h e))

-- a word lies in the text
word_within : (s : List ℕ) (at : ℕ) (p : ℕ → Bool) → at ≤ length s → at + length (leading p (drop at s)) ≤ length s
word_within s at p h = omega (arith, leading_le p (drop at s), length-drop at s)

-- a byte that is not 0 is in the text
there : (s : List ℕ) (k b : ℕ) → 0 < b → byte_at s k ≡ b → k < length s
there s k b h e = go (ltb k (length s)) refl
  where
    go : (t : Bool) → ltb k (length s) ≡ t → k < length s
    go true f = ltb-true k (length s) f
    go false f = let z = get_or-eq_default s 0 (ltb-false k (length s) f) in absurd (omega arith)

module _ (s : List ℕ) (at : ℕ) (h : at < length s) where
  symbol_good : word_byte (byte_at s at) ≡ true → Good s at (symbol_at s at)
  unfolding symbol_at
  symbol_good e =
      text_good s at at (length (word_at s at)) word_byte Symbol (omega arith) (λ t f. omega arith) (λ g. (g, some_word s at h e)) (some_word s at h e) (word_within s at word_byte (omega arith))

  directive_good : Good s at (directive_at s at)
  unfolding directive_at
  directive_good =
      text_good s at (at + 1) (length (word_at s (at + 1)) + 1) word_byte Directive (omega arith) (λ t f. omega arith) (λ g. g) (omega arith)
      (omega (arith, word_within s (at + 1) word_byte (omega arith)))

  parameter_good : Good s at (parameter_at s at)
  unfolding parameter_at
  parameter_good =
      go (word_at s (at + 1)) (text_piece Parameter (at + 1) (word_at s (at + 1)) (length (word_at s (at + 1)) + 1))
      (text_good s at (at + 1) (length (word_at s (at + 1)) + 1) word_byte Parameter (omega arith) (λ t f. omega arith) (λ g. g) (omega arith)
      (omega (arith, word_within s (at + 1) word_byte (omega arith))))
    where
      go : (l : List ℕ) (x : Piece) → Good s at x → Good s at (if_any l x)
      go [] x g = tt
      go (b ∷ l) x g = g

  comment_good : Good s at (comment_at s at)
  unfolding comment_at
  comment_good =
      let p : ℕ → Bool = λ b. not (is "\n" b) in
      text_good s at (at + 1) (length (leading p (drop (at + 1) s)) + 1) p Comment (omega arith) (λ t f. omega arith) (λ g. g) (omega arith) (omega (arith, word_within s (at + 1) p (omega arith)))

  string_good : Good s at (string_at s at)
  unfolding string_at
  string_good = go (is "\"" (byte_at s end)) refl
    where
      inside : ℕ → Bool
      inside b = not (is "\"" b || is "\n" b)

      end : ℕ
      end = at + 1 + length (leading inside (drop (at + 1) s))

      go : (t : Bool) → is "\"" (byte_at s end) ≡ t
          → Good s at (elim t [ true ↦ text_piece StringLiteral (at + 1) (leading inside (drop (at + 1) s)) (length (leading inside (drop (at + 1) s)) + 2) | false ↦ BadByte ])
      go false e = tt
      go true e =
          text_good s at (at + 1) (length (leading inside (drop (at + 1) s)) + 2) inside StringLiteral (omega arith) (λ t f. omega arith) (λ g. g) (omega arith)
          (omega (arith, there s end 34 (omega arith) (eqb-true (byte_at s end) 34 e)))

  register_good : Good s at (register_at s at)
  unfolding register_at
  register_good = go (register_named (word_at s (at + 1)))
    where
      go : (r : Option NamedRegister) → Good s at (register_piece r (length (word_at s (at + 1)) + 1))
      go (Some (General r)) = record {
        least = omega arith;
        within = omega (arith, word_within s (at + 1) word_byte (omega arith));
        carried_fits = omega (arith, register_lt r);
        no_float = other (Register r) (λ f. omega arith);
      }
      go (Some (FloatNamed r)) = record {
        least = omega arith;
        within = omega (arith, word_within s (at + 1) word_byte (omega arith));
        carried_fits = omega (arith, fp_register_lt r);
        no_float = other (FPRegister r) (λ f. omega arith);
      }
      go None = tt

  -- ---- numbers
  hexadecimal_good : at + 2 ≤ length s → (m : Option (ℕ × ℕ)) → number_in 16 (drop (at + 2) s) ≡ m → Good s at (hexadecimal_piece m)
  hexadecimal_good l None e = tt
  hexadecimal_good l (Some (value, n)) e = go (eqb n 0) refl
    where
      go : (t : Bool) → eqb n 0 ≡ t → Good s at (hexadecimal_piece (Some (value, n)))
      go true f = subst (Good s at) (hex_empty value n (eqb-true n 0 f)) tt
      go false f =
          let v = number_is 16 (drop (at + 2) s) value n e in
          subst (Good s at) (hex_some value n (eqb-false n 0 f))
          (record {
            least = omega arith;
            within = omega (arith, word_within s (at + 2) (is_digit_of 16) l);
            carried_fits = v.0;
            no_float = other (IntegerLiteral value) (λ f. omega arith);
          })

  decimal_good : class_of (byte_at s at) ≡ Digit → (m : Option (ℕ × ℕ)) → number_in 10 (drop at s) ≡ m → Good s at (decimal_piece m)
  decimal_good k None e = tt
  decimal_good k (Some (value, n)) e =
      let v = number_is 10 (drop at s) value n e in
      let r = digit_class (byte_at s at) k in
      let d = digit_decimal (byte_at s at) r.0 r.1 in
      record {
        least = omega (arith, ap length (leading_next (is_digit_of 10) s at h (lt-ltb (digit_value (byte_at s at)) 10 (omega arith))));
        within = omega (arith, word_within s at (is_digit_of 10) (omega arith));
        carried_fits = v.0;
        no_float = other (IntegerLiteral value) (λ f. omega arith);
      }

  number_good : class_of (byte_at s at) ≡ Digit → Good s at (number_at s at)
  number_good k = go (starts_hexadecimal s at) refl
    where
      go : (t : Bool) → starts_hexadecimal s at ≡ t → Good s at (number_at s at)
      go true e = subst (Good s at) (number_hex s at e) (hexadecimal_good (hex_within s at e) (number_in 16 (drop (at + 2) s)) refl)
      go false e = subst (Good s at) (number_decimal s at e) (decimal_good k (number_in 10 (drop at s)) refl)

  pub piece_good : Good s at (piece_at s at)
  unfolding piece_at
  piece_good = go (class_of (byte_at s at)) refl
    where
      go : (k : Class) → class_of (byte_at s at) ≡ k → Good s at (piece_of k s at)
      go BlankClass e = tt
      go Newline e = one s at _ h tt (λ f. omega arith)
      go Digit e = number_good e
      go Letter e = symbol_good (ap is_word e)
      go (Mark CommentMark) e = comment_good
      go (Mark DirectiveMark) e = directive_good
      go (Mark ParameterMark) e = parameter_good
      go (Mark RegisterMark) e = register_good
      go (Mark StringMark) e = string_good
      go (Mark PlusMark) e = one s at _ h tt (λ f. omega arith)
      go (Mark MinusMark) e = one s at _ h tt (λ f. omega arith)
      go (Mark CommaMark) e = one s at _ h tt (λ f. omega arith)
      go (Mark ColonMark) e = one s at _ h tt (λ f. omega arith)
      go (Mark LeftBraceMark) e = one s at _ h tt (λ f. omega arith)
      go (Mark RightBraceMark) e = one s at _ h tt (λ f. omega arith)
      go Nothing e = tt
