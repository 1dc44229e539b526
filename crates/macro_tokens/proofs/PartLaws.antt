-- Laws of token records in a part of a list, and from a place of it on. Assumes nothing.
use Rattle.std.specs.Prelude.{ℕ, ◌+◌, ◌≤◌, ◌≡◌, refl, length, take, None}
use Rattle.std.proofs.Common.{arith, ◌∙◌, length-drop, take-append-drop, length-take-le}
use mathlib.Core.List.{List, [], ◌∷◌, ◌++◌, map}
use Rattle.std.proofs.Math.Path.{sym, ap, ap₂}
use Rattle.std.proofs.Math.ListN.{drop}
use Rattle.record.specs.Bytes.{le16, part}
use Rattle.record.proofs.BehindLaws.{le16_before, le16_behind, part_before, part_behind}
use Rattle.record.proofs.OneMoreLaws.{is_whole}
use Rattle.record.specs.Records.{body_len, kind_at, next, places_from, first_bad}
use Rattle.record.proofs.RecordsLaws.{places_all}
use Rattle.lexer.specs.Tokens.{TokenIs, token_ok, token_layout}
use Rattle.token_bytes.proofs.BehindLaws.{behind, places_behind, good_behind}
use Rattle.line_heads.specs.Lines.{record_at, records_of}
use Rattle.line_heads.proofs.RecordLaws.{records_from}
use Rattle.macros.proofs.KnownLaws.{good_first}

-- ---- in a part
module _ (s : List ℕ) (i n : ℕ) (fits : i + n ≤ length s) where
  abbrev b : List ℕ
  b = part s i n

  abbrev rest : List ℕ
  rest = drop n (drop i s)

  all_of : take i s ++ (b ++ rest) ≡ s
  all_of = ap (λ (x : List ℕ). take i s ++ x) (take-append-drop n (drop i s)) ∙ take-append-drop i s

  before : length (take i s) ≡ i
  before = length-take-le i s (omega arith)

  pub length_part : length b ≡ n
  length_part = length-take-le n (drop i s) (omega (arith, length-drop i s))

  half_part : (j k : ℕ) → j + 2 ≤ n → k ≡ i + j → le16 s k ≡ le16 b j
  half_part j k h e =
      sym (ap (λ (x : List ℕ). le16 x k) all_of) ∙ le16_behind (take i s) (b ++ rest) j k (omega (arith, before)) ∙ le16_before b rest j (omega (arith, length_part))

  cut_part : (j k m : ℕ) → j + m ≤ n → k ≡ i + j → part s k m ≡ part b j m
  cut_part j k m h e =
      sym (ap (λ (x : List ℕ). part x k m) all_of) ∙ part_behind (take i s) (b ++ rest) j k m (omega (arith, before)) ∙ part_before b rest j m (omega (arith, length_part))

  module _ (p : ℕ) (is : TokenIs b p) where
    body_same : body_len s (i + p) ≡ body_len b p
    body_same = half_part p (i + p) (omega (arith, is.head, length_part)) refl

    kind_same : kind_at s (i + p) ≡ kind_at b p
    kind_same = half_part (p + 2) (i + p + 2) (omega (arith, is.head, length_part)) (omega arith)

    pub token_part : TokenIs s (i + p)
    token_part =
        let e = body_same in
        let k = kind_same in
        let l = length_part in
        let h : i + p + 4 ≤ length s = omega (arith, is.head) in
        let m : next s (i + p) ≤ length s = omega (arith, is.body) in
        record {
          whole_at = is_whole s (i + p) h m;
          head = h;
          body = m;
          least = omega (arith, is.least);
          slot = λ x y. omega (arith, is.slot (omega arith) (omega arith));
          number = λ x y. omega (arith, is.number (omega arith) (omega arith));
        }

    pub record_part : record_at s (i + p) ≡ record_at b p
    record_part = ap (λ (m : ℕ). part s (i + p) (4 + m)) body_same ∙ cut_part p (i + p) (4 + body_len b p) (omega (arith, is.body, length_part)) refl

-- ---- from a place on
module _ (l r : List ℕ) where
  record_behind : (p : ℕ) → record_at (l ++ r) (behind l r p) ≡ record_at r p
  record_behind p =
      part_behind l r p (behind l r p) (4 + body_len (l ++ r) (behind l r p)) refl ∙ ap (λ (n : ℕ). part r p (4 + n)) (le16_behind l r p (behind l r p) refl)

  records_behind : (ps : List ℕ) → map (record_at (l ++ r)) (map (behind l r) ps) ≡ map (record_at r) ps
  records_behind [] = refl
  records_behind (p ∷ ps) = ap₂ (λ (x : List ℕ) (xs : List (List ℕ)). x ∷ xs) (record_behind p) (records_behind ps)

module _ (s : List ℕ) (i : ℕ) (h : i ≤ length s) where
  split : s ≡ take i s ++ drop i s
  split = sym (take-append-drop i s)

  here : i ≡ length (take i s)
  here = sym (length-take-le i s h)

  pub records_drop : records_from s i ≡ records_of (drop i s)
  unfolding records_of
  records_drop =
      ap₂ (λ (x : List ℕ) (n : ℕ). map (record_at x) (places_from x n)) split here
      ∙ ap (map (record_at (take i s ++ drop i s))) (places_behind (take i s) (drop i s))
      ∙ records_behind (take i s) (drop i s) (places_from (drop i s) 0)
      ∙ sym (ap (map (record_at (drop i s))) (places_all (drop i s)))

  pub good_drop : token_layout (drop i s) ≡ None → first_bad (token_ok s) (places_from s i) ≡ None
  good_drop g =
      ap₂ (λ (x : List ℕ) (n : ℕ). first_bad (token_ok x) (places_from x n)) split here
      ∙ ap (first_bad (token_ok (take i s ++ drop i s))) (places_behind (take i s) (drop i s))
      ∙ good_behind (take i s) (drop i s) (places_from (drop i s) 0) (good_first (drop i s) g)
