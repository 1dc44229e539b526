-- Laws of a list of token records behind other bytes: its places, tests and tokens are those of the list alone. Assumes nothing.
use Rattle.std.specs.Prelude.{ℕ, zero, suc, ◌+◌, ◌-◌, ◌≤◌, ◌<◌, Bool, true, false, ◌&&◌, ◌≡◌, length, get_or, leb, ltb, eqb, None}
use Rattle.std.proofs.Common.{arith, ◌∙◌, length-append, le-leb, leb-true, leb-false, ltb-true, ltb-false}
use mathlib.Core.List.{List, [], ◌∷◌, ◌++◌, map}
use Rattle.std.proofs.Math.Path.{refl, sym, ap, ap₂}
use Rattle.std.proofs.Math.ListN.{get_or-map}
use Rattle.std.specs.Float.Ieee.{of_bits}
use Rattle.std.specs.Float.{binary64}
use Rattle.std.proofs.lemmas.Bool.{lt-leb}
use Rattle.record.specs.Bytes.{byte_at, le64, location_at, part, is_text, all}
use Rattle.record.specs.Records.{body_len, kind_at, next, whole, places_from, first_bad}
use Rattle.record.proofs.RecordsLaws.{places_step, places_cut, places_end, first_good, first_pass}
use Rattle.record.proofs.BehindLaws.{byte_behind, le16_behind, le64_behind, location_behind, part_behind}
use Rattle.record.specs.declared.Location.{Location}
use Rattle.registers.specs.Slots.{register_of, fp_register_of}
use Rattle.lexer.specs.Tokens.{payload_len, payload_of, payload_ok, text_of, token_ok, kinds_at, token_at}
use Rattle.lexer.specs.declared.Payload.{Payload}
use Rattle.lexer.specs.declared.Payload.TheVariants.{Text, Slot, Number, Name, Nothing, Unknown}
use Rattle.lexer.specs.declared.Text.{Text as TextPlace}
use Rattle.lexer.specs.declared.TokenKind.{TokenKind}
use Rattle.lexer.specs.declared.TokenKind.TheVariants.{Comment, Directive, Parameter, Register, FPRegister, IntegerLiteral, FloatLiteral, StringLiteral, Symbol, Plus, Minus, Comma, Colon, NewLine, LeftBrace, RightBrace}
use Rattle.token_bytes.specs.Meant.{Meant, meant, kind_meant, text_carried}
use Rattle.token_bytes.specs.TokenBytes.{carried_by}

-- ---- a token and its test, from what they read: the payload's length, first byte, first eight bytes, and text
abbrev pub ok_by : Payload → (n b : ℕ) → (text : List ℕ) → Bool
ok_by Text n b text = leb n 64 && all is_text text
ok_by Slot n b text = eqb n 1 && leb b 31
ok_by Number n b text = eqb n 8
ok_by Name n b text = leb 1 n && leb n 64 && all is_text text
ok_by Nothing n b text = eqb n 0
ok_by Unknown n b text = false

pub ok_by_lem : (p : Payload) (s : List ℕ) (at : ℕ) → payload_ok p s at ≡ ok_by p (payload_len s at) (byte_at s (at + 12)) (text_of s at)
unfolding payload_ok
ok_by_lem Text s at = refl
ok_by_lem Slot s at = refl
ok_by_lem Number s at = refl
ok_by_lem Name s at = refl
ok_by_lem Nothing s at = refl
ok_by_lem Unknown s at = refl

abbrev placed : ℕ → TextPlace
placed n = record { start = 0; len = n }

abbrev pub kinds_by : (n b m : ℕ) → List TokenKind
kinds_by n b m =
    Comment (placed n) ∷ Directive (placed n) ∷ Parameter (placed n) ∷ Register (register_of b) ∷ FPRegister (fp_register_of b) ∷ IntegerLiteral m ∷ FloatLiteral (of_bits binary64 m)
    ∷ StringLiteral (placed n) ∷ Symbol (placed n) ∷ Plus ∷ Minus ∷ Comma ∷ Colon ∷ NewLine ∷ LeftBrace ∷ RightBrace ∷ []

abbrev pub texts_by : List ℕ → List (List ℕ)
texts_by text = text ∷ text ∷ text ∷ [] ∷ [] ∷ [] ∷ [] ∷ text ∷ text ∷ [] ∷ [] ∷ [] ∷ [] ∷ [] ∷ [] ∷ [] ∷ []

abbrev pub meant_by : Location → (kind n b m : ℕ) → (text : List ℕ) → Meant
meant_by location kind n b m text = record { location = location; kind = get_or (kinds_by n b m) kind NewLine; text = get_or (texts_by text) kind [] }

pub meant_by_lem : (s : List ℕ) (at : ℕ)
    → meant s (token_at s at) ≡ meant_by (location_at s (at + 4)) (kind_at s at) (payload_len s at) (byte_at s (at + 12)) (le64 s (at + 12)) (text_of s at)
meant_by_lem s at =
    ap₂ (λ (k : TokenKind) (t : List ℕ). record { location = location_at s (at + 4); kind = k; text = t })
    (sym (get_or-map kind_meant (kinds_at s at) (kind_at s at) NewLine)) (sym (get_or-map (λ (k : TokenKind). text_carried s (carried_by k)) (kinds_at s at) (kind_at s at) NewLine))

-- ---- behind l
leb_add : (n a b : ℕ) → leb (n + a) (n + b) ≡ leb a b
leb_add n a b = go (leb a b) refl
  where
    go : (t : Bool) → leb a b ≡ t → leb (n + a) (n + b) ≡ leb a b
    go true e = le-leb (n + a) (n + b) (omega (arith, leb-true a b e)) ∙ sym e
    go false e = lt-leb (n + a) (n + b) (omega (arith, leb-false a b e)) ∙ sym e

module _ (l r : List ℕ) where
  -- A place of r, as a place of the joined list.
  abbrev pub behind : ℕ → ℕ
  behind i = length l + i

  next_behind : (i : ℕ) → next (l ++ r) (behind i) ≡ behind (next r i)
  next_behind i = omega (arith, le16_behind l r i (behind i) refl)

  whole_behind : (i : ℕ) → whole (l ++ r) (behind i) ≡ whole r i
  whole_behind i =
      let head : behind i + 4 ≡ behind (i + 4) = omega arith in
      let n = length-append l r in
      ap₂ (λ (a b : Bool). a && b)
      (ap₂ leb head n ∙ leb_add (length l) (i + 4) (length r)) (ap₂ leb (next_behind i) n ∙ leb_add (length l) (next r i) (length r))

  body_behind : (i : ℕ) → body_len (l ++ r) (behind i) ≡ body_len r i
  body_behind i = le16_behind l r i (behind i) refl

  kind_behind : (i : ℕ) → kind_at (l ++ r) (behind i) ≡ kind_at r i
  kind_behind i = le16_behind l r (i + 2) (behind i + 2) (omega arith)

  len_behind : (i : ℕ) → payload_len (l ++ r) (behind i) ≡ payload_len r i
  len_behind i = ap (λ (n : ℕ). n - 8) (body_behind i)

  first_behind : (i : ℕ) → byte_at (l ++ r) (behind i + 12) ≡ byte_at r (i + 12)
  first_behind i = byte_behind l r (i + 12) (behind i + 12) (omega arith)

  text_behind : (i : ℕ) → text_of (l ++ r) (behind i) ≡ text_of r i
  text_behind i = part_behind l r (i + 12) (behind i + 12) (payload_len (l ++ r) (behind i)) (omega arith) ∙ ap (part r (i + 12)) (len_behind i)

  pub ok_behind : (i : ℕ) → token_ok (l ++ r) (behind i) ≡ token_ok r i
  unfolding token_ok
  ok_behind i =
      let s = l ++ r in
      let at = behind i in
      ap₂ (λ (w : Bool) (n : ℕ). w && (leb 8 n && payload_ok (payload_of (kind_at s at)) s at)) (whole_behind i) (body_behind i)
      ∙ ap (λ (p : Bool). whole r i && (leb 8 (body_len r i) && p))
      (ap (λ (k : ℕ). payload_ok (payload_of k) s at) (kind_behind i)
      ∙ ok_by_lem (payload_of (kind_at r i)) s at
      ∙ ap₂ (λ (n b : ℕ). ok_by (payload_of (kind_at r i)) n b (text_of s at)) (len_behind i) (first_behind i)
      ∙ ap (ok_by (payload_of (kind_at r i)) (payload_len r i) (byte_at r (i + 12))) (text_behind i)
      ∙ sym (ok_by_lem (payload_of (kind_at r i)) r i))

  meant_behind : (i : ℕ) → meant (l ++ r) (token_at (l ++ r) (behind i)) ≡ meant r (token_at r i)
  meant_behind i =
      let s = l ++ r in
      let at = behind i in
      meant_by_lem s at
      ∙ ap₂ (λ (x : Location) (k : ℕ). meant_by x k (payload_len s at) (byte_at s (at + 12)) (le64 s (at + 12)) (text_of s at))
      (location_behind l r (i + 4) (at + 4) (omega arith)) (kind_behind i)
      ∙ ap₂ (λ (n b : ℕ). meant_by (location_at r (i + 4)) (kind_at r i) n b (le64 s (at + 12)) (text_of s at)) (len_behind i) (first_behind i)
      ∙ ap₂ (meant_by (location_at r (i + 4)) (kind_at r i) (payload_len r i) (byte_at r (i + 12))) (le64_behind l r (i + 12) (at + 12) (omega arith)) (text_behind i)
      ∙ sym (meant_by_lem r i)

  -- ---- the whole list behind l
  ended : (i : ℕ) → length r ≤ i → places_from (l ++ r) (behind i) ≡ map behind (places_from r i)
  ended i h = places_end (l ++ r) (behind i) (omega (arith, length-append l r)) ∙ sym (ap (map behind) (places_end r i h))

  stepped : (i : ℕ) → i < length r → whole r i ≡ true → places_from (l ++ r) (behind (next r i)) ≡ map behind (places_from r (next r i))
      → places_from (l ++ r) (behind i) ≡ map behind (places_from r i)
  stepped i h w ih =
      places_step (l ++ r) (behind i) (omega (arith, length-append l r)) (whole_behind i ∙ w)
      ∙ ap (λ (k : ℕ). behind i ∷ places_from (l ++ r) k) (next_behind i)
      ∙ ap (λ (ps : List ℕ). behind i ∷ ps) ih
      ∙ sym (ap (map behind) (places_step r i h w))

  cut : (i : ℕ) → i < length r → whole r i ≡ false → places_from (l ++ r) (behind i) ≡ map behind (places_from r i)
  cut i h w = places_cut (l ++ r) (behind i) (omega (arith, length-append l r)) (whole_behind i ∙ w) ∙ sym (ap (map behind) (places_cut r i h w))

  places_from_lem : (n i : ℕ) → length r ≤ i + n → places_from (l ++ r) (behind i) ≡ map behind (places_from r i)
  places_from_lem zero i h = ended i (omega arith)
  places_from_lem (suc n) i h = go (ltb i (length r)) refl (whole r i) refl (places_from_lem n (next r i) (omega arith))
    where
      go : (t : Bool) → ltb i (length r) ≡ t → (w : Bool) → whole r i ≡ w → places_from (l ++ r) (behind (next r i)) ≡ map behind (places_from r (next r i))
          → places_from (l ++ r) (behind i) ≡ map behind (places_from r i)
      go false e w ew ih = ended i (ltb-false i (length r) e)
      go true e true ew ih = stepped i (ltb-true i (length r) e) ew ih
      go true e false ew ih = cut i (ltb-true i (length r) e) ew

  pub places_behind : places_from (l ++ r) (length l) ≡ map behind (places_from r 0)
  places_behind =
      let z : length l ≡ behind 0 = omega arith in
      ap (places_from (l ++ r)) z ∙ places_from_lem (length r) 0 (omega arith)

  pub good_behind : (ps : List ℕ) → first_bad (token_ok r) ps ≡ None → first_bad (token_ok (l ++ r)) (map behind ps) ≡ None
  unfolding first_bad
  good_behind [] g = refl
  good_behind (p ∷ ps) g =
      let h = first_good (token_ok r) p ps g in
      first_pass (token_ok (l ++ r)) (behind p) (map behind ps) (ok_behind p ∙ h.0) ∙ good_behind ps h.1

  pub all_behind : (ps : List ℕ) → map (λ (p : ℕ). meant (l ++ r) (token_at (l ++ r) p)) (map behind ps) ≡ map (λ (p : ℕ). meant r (token_at r p)) ps
  all_behind [] = refl
  all_behind (p ∷ ps) = ap₂ (λ (x : Meant) (xs : List Meant). x ∷ xs) (meant_behind p) (all_behind ps)
