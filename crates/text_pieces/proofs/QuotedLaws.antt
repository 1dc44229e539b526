-- Laws of comments and strings, the pieces that are read up to an ending byte. Assumes nothing.
use Rattle.std.specs.Prelude.{ℕ, ◌+◌, ◌-◌, ◌≤◌, ◌<◌, List, Bool, not, ◌&&◌, ◌||◌, ◌⊎◌, ◌≡◌, length, take, drop}
use Rattle.std.proofs.Common.{arith, inl, inr, ◌∙◌, length-drop, get_or-drop, leb-true, leb-false, ne_eqb, eqb-true}
use Rattle.std.proofs.Math.Bool.{true, false}
use Rattle.std.proofs.lemmas.Bool.{false≢true}
use Rattle.std.proofs.Math.Path.{refl, sym, ap}
use Rattle.std.proofs.Math.ListN.{get_or-eq_default}
use Rattle.std.proofs.Math.Dec.{leb}
use Rattle.record.specs.Bytes.{byte_at, is_text, all}
use Rattle.lexer.specs.declared.TokenKind.TheVariants.{Comment, StringLiteral}
use Rattle.byte_class.specs.Class.{is}
use Rattle.text_pieces.specs.Leading.{leading, plain}
use Rattle.text_pieces.proofs.StopLaws.{leading_same, goes_on, plainly, plainly_text, stopped, broken}
use Rattle.text_pieces.specs.Pieces.{text_piece, line_ends, comment_at, string_at}
use Rattle.text_pieces.proofs.TextLaws.{rest, counted_fits, counted_long, bad}
use Rattle.text_pieces.specs.declared.Piece.TheVariants.{Token, BadByte, BadToken}

-- Counts behind a mark, up to a byte that ends the text or that no text may have.
module _ (ends : ℕ → Bool) (end : ℕ) (agree : (b : ℕ) → plain end b ≡ plainly ends b) (s : List ℕ) (at n : ℕ)
    (e : n ≡ length (leading (plain end) (take (length s - (at + 1)) (drop (at + 1) s)))) where
  abbrev after : List ℕ
  after = drop (at + 1) s

  -- the definition's text
  abbrev text : List ℕ
  text = leading (goes_on ends) after

  counted : n ≡ length (leading (plainly ends) after)
  counted = e ∙ ap (λ (r : List ℕ). length (leading (plain end) r)) (rest s (at + 1)) ∙ ap length (leading_same (plain end) (plainly ends) agree after)

  byte_is : byte_at after (length (leading (plainly ends) after)) ≡ byte_at s (at + 1 + n)
  byte_is = get_or-drop (at + 1) s (length (leading (plainly ends) after)) 0 ∙ ap (λ (k : ℕ). byte_at s (at + 1 + k)) (sym counted)

  record Whole : Type 0 where
    count : n ≡ length text
    is_text_lem : all is_text text ≡ true

  whole : (length s ≤ at + 1 + n) ⊎ (ends (byte_at s (at + 1 + n)) ≡ true) → Whole
  whole h =
      let same = stopped ends after (go h) in
      record { count = counted ∙ sym (ap length same); is_text_lem = ap (all is_text) same ∙ plainly_text ends after }
    where
      go : (length s ≤ at + 1 + n) ⊎ (ends (byte_at s (at + 1 + n)) ≡ true)
          → (length after ≤ length (leading (plainly ends) after)) ⊎ (ends (byte_at after (length (leading (plainly ends) after))) ≡ true)
      go (inl l) = inl (omega (arith, length-drop (at + 1) s, counted))
      go (inr t) = inr (ap ends byte_is ∙ t)

  has_bad : at + 1 + n < length s → ends (byte_at s (at + 1 + n)) ≡ false → all is_text text ≡ false
  has_bad l f = broken ends after (omega (arith, length-drop (at + 1) s, counted)) (ap ends byte_is ∙ f)

-- ---- comments
abbrev newline : ℕ → Bool
newline b = is "\n" b

module _ (s : List ℕ) (at n : ℕ) (e : n ≡ length (leading (plain 10) (take (length s - (at + 1)) (drop (at + 1) s)))) where
  agree : (b : ℕ) → plain 10 b ≡ plainly newline b
  agree b = refl

  line : line_ends s (at + 1 + n) ≡ true → Whole newline 10 agree s at n e
  line h = go (leb (length s) (at + 1 + n)) refl
    where
      go : (t : Bool) → leb (length s) (at + 1 + n) ≡ t → Whole newline 10 agree s at n e
      go true l = whole newline 10 agree s at n e (inl (leb-true (length s) (at + 1 + n) l))
      go false l = whole newline 10 agree s at n e (inr (rw l at h))

  pub comment_fits : line_ends s (at + 1 + n) ≡ true → n ≤ 64 → Token (Comment (record { start = at + 1; len = n })) (n + 1) ≡ comment_at s at
  unfolding comment_at
  comment_fits h l = counted_fits Comment (at + 1) (leading (goes_on newline) (drop (at + 1) s)) (λ m. m + 1) n (line h).count (line h).is_text_lem l

  pub comment_long : line_ends s (at + 1 + n) ≡ true → 64 < n → BadToken ≡ comment_at s at
  unfolding comment_at
  comment_long h l = counted_long Comment (at + 1) (leading (goes_on newline) (drop (at + 1) s)) (λ m. m + 1) n (line h).count (line h).is_text_lem l

  pub comment_bad : line_ends s (at + 1 + n) ≡ false → BadByte ≡ comment_at s at
  unfolding comment_at
  comment_bad h = go (leb (length s) (at + 1 + n)) refl
    where
      go : (t : Bool) → leb (length s) (at + 1 + n) ≡ t → BadByte ≡ comment_at s at
      go true l = absurd (false≢true (sym h ∙ rw l))
      go false l =
          let t = leading (goes_on newline) (drop (at + 1) s) in
          sym (bad Comment (at + 1) t (length t + 1) (has_bad newline 10 agree s at n e (leb-false (length s) (at + 1 + n) l) (rw l at h)))

-- ---- strings
abbrev closes : ℕ → Bool
closes b = is "\"" b || is "\n" b

not_newline : (b : ℕ) → is "\n" b ≡ false → closes b ≡ is "\"" b
not_newline b f = go (is "\"" b) refl
  where
    go : (t : Bool) → is "\"" b ≡ t → closes b ≡ is "\"" b
    go true e = rw e
    go false e = rw (e, f)

-- No text may have a newline.
quote_agree : (b : ℕ) → plain 34 b ≡ plainly closes b
quote_agree b = go (is "\n" b) refl
  where
    go : (t : Bool) → is "\n" b ≡ t → plain 34 b ≡ plainly closes b
    go true f = let e = eqb-true b 10 f in ap (plain 34) e ∙ sym (ap (plainly closes) e)
    go false f = ap (λ (x : Bool). is_text b && not x) (sym (not_newline b f))

module _ (s : List ℕ) (at n : ℕ) (e : n ≡ length (leading (plain 34) (take (length s - (at + 1)) (drop (at + 1) s)))) where
  abbrev quoted : List ℕ
  quoted = leading (goes_on closes) (drop (at + 1) s)

  -- Is the closing quote there?
  closed_is : (t : Bool) → is "\"" (byte_at s (at + 1 + length quoted)) ≡ t
      → string_at s at ≡ elim t [ true ↦ text_piece StringLiteral (at + 1) quoted (length quoted + 2) | false ↦ BadByte ]
  unfolding string_at
  closed_is t f = ap (λ (x : Bool). elim x [ true ↦ text_piece StringLiteral (at + 1) quoted (length quoted + 2) | false ↦ BadByte ]) f

  open_is : is "\"" (byte_at s (at + 1 + length quoted)) ≡ false → BadByte ≡ string_at s at
  open_is f = sym (closed_is false f)

  -- With a byte that no text may have, the string is bad, closed or not.
  either : (t : Bool) → all is_text quoted ≡ false → (elim t [ true ↦ text_piece StringLiteral (at + 1) quoted (length quoted + 2) | false ↦ BadByte ]) ≡ BadByte
  either true f = bad StringLiteral (at + 1) quoted (length quoted + 2) f
  either false f = refl

  abbrev x : ℕ
  x = byte_at s (at + 1 + n)

  -- past the end there is no quote
  pub string_cut : length s ≤ at + 1 + n → BadByte ≡ string_at s at
  string_cut l =
      let w = whole closes 34 quote_agree s at n e (inl l) in
      open_is (ap (is "\"") (get_or-eq_default s 0 (omega (arith, w.count))))

  pub string_bad : at + 1 + n < length s → (x ≡ 34 → ⊥) → BadByte ≡ string_at s at
  string_bad l d = go (is "\n" x) refl
    where
      go : (t : Bool) → is "\n" x ≡ t → BadByte ≡ string_at s at
      go true f =
          let w = whole closes 34 quote_agree s at n e (inr (ap closes (eqb-true x 10 f))) in
          open_is (ap (λ (k : ℕ). is "\"" (byte_at s (at + 1 + k))) (sym w.count) ∙ ne_eqb x 34 d)
      go false f = sym (closed_is (is "\"" (byte_at s (at + 1 + length quoted))) refl ∙ either (is "\"" (byte_at s (at + 1 + length quoted))) (has_bad closes 34 quote_agree s at n e l (not_newline x f ∙ ne_eqb x 34 d)))

  module _ (q : x ≡ 34) where
    string : Whole closes 34 quote_agree s at n e
    string = whole closes 34 quote_agree s at n e (inr (ap closes q))

    closed : string_at s at ≡ text_piece StringLiteral (at + 1) quoted (length quoted + 2)
    closed = closed_is true (ap (λ (k : ℕ). is "\"" (byte_at s (at + 1 + k))) (sym string.count) ∙ ap (is "\"") q)

    pub string_fits : n ≤ 64 → Token (StringLiteral (record { start = at + 1; len = n })) (n + 2) ≡ string_at s at
    string_fits l = counted_fits StringLiteral (at + 1) quoted (λ m. m + 2) n string.count string.is_text_lem l ∙ sym closed

    pub string_long : 64 < n → BadToken ≡ string_at s at
    string_long l = counted_long StringLiteral (at + 1) quoted (λ m. m + 2) n string.count string.is_text_lem l ∙ sym closed
