-- A token's record reads the same by itself as at its place in the list. Assumes nothing.
use Rattle.std.specs.Prelude.{ℕ, ◌+◌, ◌-◌, ◌*◌, ◌≤◌, ◌<◌, List, [], ◌∷◌, map, ◌≡◌, refl, length, take, drop}
use Rattle.std.proofs.Common.{arith, sym, ap, ap₂, ◌∙◌, length-drop, length-take-le, get_or-take, get_or-drop, drop-drop, take-add, take-take, drop_at}
use Rattle.record.specs.Bytes.{byte_at, le16, le32, location_at}
use Rattle.record.specs.Records.{body_len, kind_at, next, places_from}
use Rattle.record.proofs.RecordsLaws.{places_step, places_end}
use Rattle.lexer.specs.Tokens.{payload_len, text_of, TokenIs}
use Rattle.line_heads.specs.Lines.{record_at}

module _ (s : List ℕ) (p : ℕ) (is : TokenIs s p) where
  abbrev t : List ℕ
  t = record_at s p

  byte_in : (i k : ℕ) → i < 4 + body_len s p → k ≡ p + i → byte_at t i ≡ byte_at s k
  byte_in i k h e = get_or-take (4 + body_len s p) (drop p s) i 0 h ∙ get_or-drop p s i 0 ∙ ap (byte_at s) (sym e)

  half_in : (i k : ℕ) → i + 1 < 4 + body_len s p → k ≡ p + i → le16 t i ≡ le16 s k
  half_in i k h e = ap₂ (λ (a b : ℕ). a + 256 * b) (byte_in i k (omega arith) e) (byte_in (i + 1) (k + 1) h (omega arith))

  word_in : (i k : ℕ) → i + 3 < 4 + body_len s p → k ≡ p + i → le32 t i ≡ le32 s k
  word_in i k h e =
      omega (arith, byte_in i k (omega arith) e, byte_in (i + 1) (k + 1) (omega arith) (omega arith), byte_in (i + 2) (k + 2) (omega arith) (omega arith), byte_in (i + 3) (k + 3) h (omega arith))

  pub body_in : body_len t 0 ≡ body_len s p
  body_in = half_in 0 p (omega arith) (omega arith)

  pub kind_in : kind_at t 0 ≡ kind_at s p
  kind_in = half_in 2 (p + 2) (omega arith) refl

  pub location_in : location_at t 4 ≡ location_at s (p + 4)
  location_in =
      ap₂ (λ (a b : ℕ). record { source = a; index = b }) (word_in 4 (p + 4) (omega (arith, is.least)) refl) (word_in 8 (p + 4 + 4) (omega (arith, is.least)) (omega arith))

  pub text_in : text_of t 0 ≡ text_of s p
  text_in =
      let n = payload_len s p in
      let d = drop p s in
      let e : 4 + body_len s p ≡ 12 + n = omega (arith, is.least) in
      let l : length (take 12 d) ≡ 12 = length-take-le 12 d (omega (arith, is.least, is.body, length-drop p s)) in
      let f : drop 12 t ≡ take n (drop (p + 12) s) =
      ap (λ (k : ℕ). drop 12 (take k d)) e ∙ ap (drop 12) (take-add 12 n d) ∙ drop_at (take 12 d) (take n (drop 12 d)) 12 l ∙ ap (take n) (drop-drop 12 p s) in
      ap₂ (λ (k : ℕ) (x : List ℕ). take (k - 8) x) body_in f ∙ again n (drop (p + 12) s)
    where
      again : (n : ℕ) (l : List ℕ) → take n (take n l) ≡ take n l
      again n l = take-take n n l (omega arith)

  pub length_in : length t ≡ 4 + body_len s p
  length_in = length-take-le (4 + body_len s p) (drop p s) (omega (arith, is.body, length-drop p s))

-- ---- the records from a place on
abbrev pub records_from : List ℕ → ℕ → List (List ℕ)
records_from s at = map (record_at s) (places_from s at)

pub records_end : (s : List ℕ) (at : ℕ) → length s ≤ at → records_from s at ≡ []
records_end s at h = ap (map (record_at s)) (places_end s at h)

pub records_step : (s : List ℕ) (at : ℕ) → at < length s → TokenIs s at → records_from s at ≡ record_at s at ∷ records_from s (next s at)
records_step s at h is = ap (map (record_at s)) (places_step s at h is.whole_at)
