-- Laws of the pieces of letters and digits: symbols, directives, parameters and registers. Assumes nothing.
use Rattle.std.specs.Prelude.{Option, ℕ, ◌+◌, ◌-◌, ◌≤◌, ◌<◌, true, ◌≡◌, take, drop}
use Rattle.std.proofs.Common.{arith, sym, ◌∙◌}
use mathlib.Core.List.{List, [], ◌∷◌}
use Rattle.std.proofs.Math.Path.{refl, ap, ap₂}
use Rattle.std.proofs.Math.ListN.{length}
use Rattle.record.specs.Bytes.{is_text, all}
use Rattle.lexer.specs.declared.TokenKind.TheVariants.{Directive, Parameter, Symbol}
use Rattle.byte_class.specs.Class.{word_byte}
use Rattle.register_names.specs.RegisterNames.{register_named}
use Rattle.register_names.specs.declared.NamedRegister.{NamedRegister}
use Rattle.text_pieces.specs.Leading.{leading}
use Rattle.text_pieces.proofs.LeadingLaws.{leading_all, leading_take}
use Rattle.text_pieces.proofs.StopLaws.{word_text}
use Rattle.text_pieces.specs.Pieces.{text_piece, word_at, symbol_at, directive_at, if_any, parameter_at, register_piece, register_at}
use Rattle.text_pieces.proofs.TextLaws.{rest, counted_fits, counted_long}
use Rattle.text_pieces.specs.declared.Piece.TheVariants.{Token, BadToken}

module _ (s : List ℕ) (start n : ℕ) (e : n ≡ length (leading word_byte (take (length s - start) (drop start s)))) where
  pub word_count : n ≡ length (word_at s start)
  word_count = e ∙ ap (λ (r : List ℕ). length (leading word_byte r)) (rest s start)

  pub symbol_fits : n ≤ 64 → Token (Symbol (record { start = start; len = n })) n ≡ symbol_at s start
  unfolding symbol_at
  symbol_fits h = counted_fits Symbol start (word_at s start) (λ m. m) n word_count (word_text (drop start s)) h

  pub symbol_long : 64 < n → BadToken ≡ symbol_at s start
  unfolding symbol_at
  symbol_long h = counted_long Symbol start (word_at s start) (λ m. m) n word_count (word_text (drop start s)) h

module _ (s : List ℕ) (at n : ℕ) (e : n ≡ length (leading word_byte (take (length s - (at + 1)) (drop (at + 1) s)))) where
  abbrev word : List ℕ
  word = word_at s (at + 1)

  count : n ≡ length word
  count = word_count s (at + 1) n e

  is_text_lem : all is_text word ≡ true
  is_text_lem = word_text (drop (at + 1) s)

  pub directive_fits : n ≤ 64 → Token (Directive (record { start = at + 1; len = n })) (n + 1) ≡ directive_at s at
  unfolding directive_at
  directive_fits h = counted_fits Directive (at + 1) word (λ m. m + 1) n count is_text_lem h

  pub directive_long : 64 < n → BadToken ≡ directive_at s at
  unfolding directive_at
  directive_long h = counted_long Directive (at + 1) word (λ m. m + 1) n count is_text_lem h

  pub parameter_none : n ≡ 0 → BadToken ≡ parameter_at s at
  unfolding parameter_at
  parameter_none z = go word (sym count ∙ z)
    where
      go : (l : List ℕ) → length l ≡ 0 → BadToken ≡ if_any l (text_piece Parameter (at + 1) word (length word + 1))
      go [] h = refl
      go (b ∷ l) h = absurd (omega arith)

  -- If there is a name, it is the parameter's text.
  named : (n ≡ 0 → ⊥) → text_piece Parameter (at + 1) word (length word + 1) ≡ parameter_at s at
  unfolding parameter_at
  named d = go word (λ z. d (count ∙ z))
    where
      go : (l : List ℕ) → (length l ≡ 0 → ⊥) → text_piece Parameter (at + 1) word (length word + 1) ≡ if_any l (text_piece Parameter (at + 1) word (length word + 1))
      go [] h = absurd (h refl)
      go (b ∷ l) h = refl

  pub parameter_fits : (n ≡ 0 → ⊥) → n ≤ 64 → Token (Parameter (record { start = at + 1; len = n })) (n + 1) ≡ parameter_at s at
  parameter_fits d h = counted_fits Parameter (at + 1) word (λ m. m + 1) n count is_text_lem h ∙ named d

  pub parameter_long : (n ≡ 0 → ⊥) → 64 < n → BadToken ≡ parameter_at s at
  parameter_long d h = counted_long Parameter (at + 1) word (λ m. m + 1) n count is_text_lem h ∙ named d

  -- ---- registers
  -- The name, cut out of the text.
  abbrev name : List ℕ
  name = take (at + 1 + n - (at + 1)) (drop (at + 1) s)

  name_is : name ≡ word
  name_is =
      let m : at + 1 + n - (at + 1) ≡ length word = omega (arith, count) in
      ap (λ (k : ℕ). take k (drop (at + 1) s)) m ∙ leading_take word_byte (drop (at + 1) s)

  pub name_word : all word_byte name ≡ true
  name_word = ap (all word_byte) name_is ∙ leading_all word_byte (drop (at + 1) s)

  pub register_is : (r met : Option NamedRegister) → r ≡ register_named name → r ≡ met → register_piece met (n + 1) ≡ register_at s at
  unfolding register_at
  register_is r met f g = ap₂ (λ (x : Option NamedRegister) (m : ℕ). register_piece x (m + 1)) (sym g ∙ f ∙ ap register_named name_is) count
