-- What the tokens of a good list hold: numbers that fit eight bytes, names of 1 to 64 text bytes. Assumes nothing.
use Rattle.std.specs.Prelude.{ℕ, zero, suc, ◌+◌, ◌^◌, ◌≤◌, ◌<◌, ◌≡◌, List, [], ◌∷◌, map, ◌&&◌, length, get_or, None, Option, Some}
use Rattle.std.proofs.Common.{arith, subst, length-take, length-drop}
use Rattle.std.proofs.Math.Bool.{true, and-eq-true_iff}
use Rattle.std.proofs.Math.Dec.{leb}
use borrow.Author.Tests.{leb-true}
use Rattle.record.specs.Bytes.{le64, location_at, part, is_text, all}
use Rattle.record.specs.Records.{body_len, kind_at, whole, places, first_bad}
use Rattle.record.proofs.RecordsLaws.{whole_is, first_good}
use Rattle.record.specs.Stores.{LocationFits}
use Rattle.lexer.specs.Tokens.{payload_len, text_of, payload_of, payload_ok, token_ok, token_layout, text_at, kinds_at, token_at, tokens}
use Rattle.lexer.proofs.TokensLaws.{token_good}
use Rattle.lexer.specs.Views.{as_integer, as_symbol}
use Rattle.lexer.specs.declared.Payload.TheVariants.{Number, Name}
use Rattle.lexer.specs.declared.Text.{Text}
use Rattle.lexer.specs.declared.Token.{Token}
use Rattle.lexer.specs.declared.TokenKind.{TokenKind}
use Rattle.lexer.specs.declared.TokenKind.TheVariants.{NewLine}
use Rattle.cursor.specs.Cursors.{no_token}
use Rattle.finished_words.specs.Listed.{Bytes}
use Rattle.finished_words.proofs.ListedLaws.{le32_fits}

-- ---- numbers of bytes

module _ (s : List ℕ) (bytes : Bytes s) where
  le64_fits : (i : ℕ) → le64 s i < 2 ^ 64
  le64_fits i = omega (arith, le32_fits s bytes i, le32_fits s bytes (i + 4))

  pub location_fits : (i : ℕ) → LocationFits (location_at s i)
  location_fits i = record { source_fits = le32_fits s bytes i; index_fits = le32_fits s bytes (i + 4) }

-- ---- what a token holds

pub record TextFits (s : List ℕ) (x : Text) : Type 0 where
  pub least : 1 ≤ length (part s x.start x.len)
  pub most : length (part s x.start x.len) ≤ 64
  pub text : all is_text (part s x.start x.len) ≡ true

abbrev pub IntegerFits : Option ℕ → Type 0
IntegerFits (Some n) = n < 2 ^ 64
IntegerFits None = Unit {0}

abbrev pub SymbolFits : List ℕ → Option Text → Type 0
SymbolFits s (Some x) = TextFits s x
SymbolFits s None = Unit {0}

pub record TokenFits (s : List ℕ) (t : Token) : Type 0 where
  pub place_fits : LocationFits t.location
  pub integer_fits : IntegerFits (as_integer t.kind)
  pub symbol_fits : SymbolFits s (as_symbol t.kind)

-- ---- a token by its kind's number

-- P holds for each element, with its index.
abbrev EachAt : {A : Type 0} → (ℕ → A → Type 0) → ℕ → List A → Type 0
EachAt P n [] = Unit {0}
EachAt P n (x ∷ xs) = P n x × EachAt P (suc n) xs

module _ (s : List ℕ) (at : ℕ) (bytes : Bytes s) where
  -- If the payload passes the test of its sort, the kind's number or name fits.
  abbrev KindFits : ℕ → TokenKind → Type 0
  KindFits n k = payload_ok (payload_of n) s at ≡ true → IntegerFits (as_integer k) × SymbolFits s (as_symbol k)

  named : whole s at ≡ true → 8 ≤ body_len s at → payload_ok Name s at ≡ true → TextFits s (text_at s at)
  unfolding payload_ok
  named w h e =
      let n = payload_len s at in
      let p = (and-eq-true_iff (leb 1 n && leb n 64) (all is_text (text_of s at))).0 e in
      let q = (and-eq-true_iff (leb 1 n) (leb n 64)).0 p.0 in
      let i = leb-true 1 n q.0 in
      let j = leb-true n 64 q.1 in
      let k = whole_is s at w in
      record { least = simp (length-take, length-drop) (omega arith); most = simp (length-take, length-drop) (omega arith); text = p.1 }

  -- A kind with neither a number nor a name.
  neither : {A : Type 0} → A → Unit {0} × Unit {0}
  neither e = (tt, tt)

  kinds_fit : whole s at ≡ true → 8 ≤ body_len s at → EachAt KindFits 0 (kinds_at s at)
  unfolding payload_of
  kinds_fit w h =
      let number : payload_ok Number s at ≡ true → IntegerFits (Some (le64 s (at + 12))) × Unit {0} = λ e. (le64_fits s bytes (at + 12), tt) in
      let name : payload_ok Name s at ≡ true → Unit {0} × SymbolFits s (Some (text_at s at)) = λ e. (tt, named w h e) in
      (neither, (neither, (neither, (neither, (neither, (number, (neither, (neither, (name, (neither, (neither, (neither, (neither, (neither, (neither, (neither, tt))))))))))))))))

  -- So the kind at any number fits; past the end it is NewLine.
  kind_fits : (n : ℕ) (ks : List TokenKind) → EachAt KindFits n ks → (i m : ℕ) → n + i ≡ m → KindFits m (get_or ks i NewLine)
  kind_fits n [] e i m q = neither
  kind_fits n (k ∷ ks) e zero m q =
      let same : n ≡ m = omega arith in
      subst (λ (j : ℕ). KindFits j k) same e.0
  kind_fits n (k ∷ ks) e (suc i) m q = kind_fits (suc n) ks e.1 i m (omega arith)

  token_fits : token_ok s at ≡ true → TokenFits s (token_at s at)
  unfolding token_ok
  token_fits e =
      let kind = kind_at s at in
      let ok = payload_ok (payload_of kind) s at in
      let w = (and-eq-true_iff (whole s at) (leb 8 (body_len s at) && ok)).0 e in
      let p = (and-eq-true_iff (leb 8 (body_len s at)) ok).0 w.1 in
      let k = kind_fits 0 (kinds_at s at) (kinds_fit w.0 (leb-true 8 (body_len s at) p.0)) kind kind (omega arith) p.1 in
      record { place_fits = location_fits s bytes (at + 4); integer_fits = k.0; symbol_fits = k.1 }

-- Each token of a good list fits, and so does the default past its end.
each_fits : (s : List ℕ) → Bytes s → (ps : List ℕ) → first_bad (token_ok s) ps ≡ None → (i : ℕ) → TokenFits s (get_or (map (token_at s) ps) i no_token)
each_fits s bytes [] g i = record { place_fits = record { source_fits = omega arith; index_fits = omega arith }; integer_fits = tt; symbol_fits = tt }
each_fits s bytes (p ∷ ps) g zero = token_fits s p bytes (first_good (token_ok s) p ps g).0
each_fits s bytes (p ∷ ps) g (suc i) = each_fits s bytes ps (first_good (token_ok s) p ps g).1 i

pub tokens_fit : (s : List ℕ) → Bytes s → token_layout s ≡ None → (i : ℕ) → TokenFits s (get_or (tokens s) i no_token)
unfolding tokens
tokens_fit s bytes g i = each_fits s bytes (places s) (token_good s g).1 i
