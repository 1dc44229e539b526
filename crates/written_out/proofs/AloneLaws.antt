-- Laws of a token's record alone: it passes alone as it does in its list, and records that pass make a good list. Assumes nothing.
use Rattle.std.specs.Prelude.{ℕ, ◌+◌, ◌-◌, ◌≤◌, ◌<◌, List, ◌∷◌, ◌++◌, map, Bool, false, ◌&&◌, ◌≡◌, refl, length, take, drop, leb, None}
use Rattle.std.proofs.Common.{arith, ◌∙◌, length-append, length-drop, take-append-drop, length-take-le, leb-true, leb-false}
use Rattle.std.proofs.Math.Bool.{true}
use Rattle.std.proofs.Math.Path.{sym, ap, ap₂}
use Rattle.record.specs.Bytes.{byte_at, part}
use Rattle.record.specs.Records.{body_len, kind_at, next, whole, places_from, places, first_bad}
use Rattle.record.proofs.RecordsLaws.{places_all, places_step, first_pass}
use Rattle.record.proofs.BehindLaws.{byte_before, le16_before, part_before, le16_behind}
use Rattle.record.proofs.OneMoreLaws.{is_whole}
use Rattle.lexer.specs.Tokens.{payload_len, payload_of, payload_ok, text_of, token_ok, TokenIs}
use Rattle.lexer.proofs.TokensLaws.{token_is}
use Rattle.lexer.specs.declared.Payload.{Payload}
use Rattle.lexer.specs.declared.Payload.TheVariants.{Text, Slot, Number, Name, Nothing, Unknown}
use Rattle.token_bytes.proofs.BehindLaws.{ok_by, ok_by_lem, ok_behind, places_behind, good_behind}
use Rattle.line_heads.specs.Lines.{record_at}

-- A token's record, and nothing else.
pub record Alone (t : List ℕ) : Type 0 where
  pub passes : token_ok t 0 ≡ true
  pub ends : next t 0 ≡ length t

-- With an empty payload, the test does not look at the first byte.
empty_by : (p : Payload) (b c : ℕ) (text : List ℕ) → ok_by p 0 b text ≡ ok_by p 0 c text
empty_by Text b c text = refl
empty_by Slot b c text = refl
empty_by Number b c text = refl
empty_by Name b c text = refl
empty_by Nothing b c text = refl
empty_by Unknown b c text = refl

module _ (t r : List ℕ) (ends : next t 0 ≡ length t) (least : 8 ≤ body_len t 0) where
  body_first : body_len (t ++ r) 0 ≡ body_len t 0
  body_first = le16_before t r 0 (omega arith)

  kind_first : kind_at (t ++ r) 0 ≡ kind_at t 0
  kind_first = le16_before t r 2 (omega arith)

  pub next_first : next (t ++ r) 0 ≡ length t
  next_first = omega (arith, body_first)

  pub whole_first : whole (t ++ r) 0 ≡ true
  whole_first = is_whole (t ++ r) 0 (omega (arith, length-append t r)) (omega (arith, length-append t r, next_first))

  text_first : text_of (t ++ r) 0 ≡ text_of t 0
  text_first = ap (λ (n : ℕ). part (t ++ r) 12 (n - 8)) body_first ∙ part_before t r 12 (payload_len t 0) (omega arith)

  payload_first : (p : Payload) → payload_ok p (t ++ r) 0 ≡ payload_ok p t 0
  payload_first p =
      ok_by_lem p (t ++ r) 0
      ∙ ap₂ (λ (n : ℕ) (x : List ℕ). ok_by p (n - 8) (byte_at (t ++ r) 12) x) body_first text_first
      ∙ go (leb 9 (body_len t 0)) refl
      ∙ sym (ok_by_lem p t 0)
    where
      go : (b : Bool) → leb 9 (body_len t 0) ≡ b → ok_by p (payload_len t 0) (byte_at (t ++ r) 12) (text_of t 0) ≡ ok_by p (payload_len t 0) (byte_at t 12) (text_of t 0)
      go true e =
          let h = leb-true 9 (body_len t 0) e in
          ap (λ (b : ℕ). ok_by p (payload_len t 0) b (text_of t 0)) (byte_before t r 12 (omega arith))
      go false e =
          let h = leb-false 9 (body_len t 0) e in
          let z : payload_len t 0 ≡ 0 = omega arith in
          ap (λ (n : ℕ). ok_by p n (byte_at (t ++ r) 12) (text_of t 0)) z ∙ empty_by p (byte_at (t ++ r) 12) (byte_at t 12) (text_of t 0)
          ∙ sym (ap (λ (n : ℕ). ok_by p n (byte_at t 12) (text_of t 0)) z)

  pub ok_first : token_ok (t ++ r) 0 ≡ token_ok t 0
  unfolding token_ok
  ok_first =
      let w : whole t 0 ≡ true = is_whole t 0 (omega arith) (omega arith) in
      ap₂ (λ (a : Bool) (n : ℕ). a && (leb 8 n && payload_ok (payload_of (kind_at (t ++ r) 0)) (t ++ r) 0)) (whole_first ∙ sym w) body_first
      ∙ ap (λ (k : ℕ). whole t 0 && (leb 8 (body_len t 0) && payload_ok (payload_of k) (t ++ r) 0)) kind_first
      ∙ ap (λ (x : Bool). whole t 0 && (leb 8 (body_len t 0) && x)) (payload_first (payload_of (kind_at t 0)))

least_of : (t : List ℕ) → Alone t → 8 ≤ body_len t 0
least_of t a = (token_is t 0 a.passes).least

-- Puts one more token in front of a list that keeps its layout.
pub alone_then : (t r : List ℕ) → Alone t → first_bad (token_ok r) (places r) ≡ None → first_bad (token_ok (t ++ r)) (places (t ++ r)) ≡ None
alone_then t r a g =
    let l = least_of t a in
    let s = t ++ r in
    let n = next_first t r a.ends l in
    let long : 0 < length s = omega (arith, length-append t r, a.ends) in
    let p : places s ≡ 0 ∷ map (λ (i : ℕ). length t + i) (places_from r 0) =
    places_all s ∙ places_step s 0 long (whole_first t r a.ends l) ∙ ap (λ (k : ℕ). 0 ∷ places_from s k) n ∙ ap (λ (ps : List ℕ). 0 ∷ ps) (places_behind t r) in
    ap (first_bad (token_ok s)) p
    ∙ first_pass (token_ok s) 0 (map (λ (i : ℕ). length t + i) (places_from r 0)) (ok_first t r a.ends l ∙ a.passes)
    ∙ good_behind t r (places_from r 0) (sym (ap (first_bad (token_ok r)) (places_all r)) ∙ g)

-- ---- a record of a list
module _ (s : List ℕ) (p : ℕ) (e : token_ok s p ≡ true) where
  abbrev d : List ℕ
  d = drop p s

  is : TokenIs s p
  is = token_is s p e

  split : take p s ++ d ≡ s
  split = take-append-drop p s

  before : length (take p s) ≡ p
  before = length-take-le p s (omega (arith, is.head))

  place : length (take p s) + 0 ≡ p
  place = omega (arith, before)

  ok_d : token_ok d 0 ≡ true
  ok_d = sym (ok_behind (take p s) d 0) ∙ ap₂ token_ok split place ∙ e

  body_d : body_len s p ≡ body_len d 0
  body_d = sym (ap₂ body_len split place) ∙ le16_behind (take p s) d 0 (length (take p s) + 0) refl

  abbrev n : ℕ
  n = 4 + body_len s p

  fits : n ≤ length d
  fits = omega (arith, is.body, length-drop p s)

  length_t : length (record_at s p) ≡ n
  length_t = length-take-le n d fits

  split_d : record_at s p ++ drop n d ≡ d
  split_d = take-append-drop n d

  body_t : body_len (record_at s p) 0 ≡ body_len s p
  body_t = sym (le16_before (record_at s p) (drop n d) 0 (omega (arith, length_t))) ∙ ap (λ (x : List ℕ). body_len x 0) split_d ∙ sym body_d

  pub alone_at : Alone (record_at s p)
  alone_at =
      let f : next (record_at s p) 0 ≡ length (record_at s p) = omega (arith, body_t, length_t) in
      record {
        passes = sym (ok_first (record_at s p) (drop n d) f (omega (arith, body_t, is.least))) ∙ ap (λ (x : List ℕ). token_ok x 0) split_d ∙ ok_d;
        ends = f;
      }
