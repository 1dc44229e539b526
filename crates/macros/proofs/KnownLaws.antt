-- Laws of a body's Parameters. Assumes nothing.
use Rattle.std.specs.Prelude.{ℕ, ◌+◌, ◌-◌, ◌≤◌, ◌<◌, Bool, true, false, not, ◌&&◌, ◌||◌, ◌≡◌, length, eqb, ltb, None}
use Rattle.std.proofs.Common.{arith, sym, ◌∙◌, eq-eqb, ne_eqb}
use mathlib.Core.List.{List, ◌∷◌, map}
use Rattle.std.proofs.Math.Path.{ap}
use Rattle.record.specs.Bytes.{part}
use Rattle.record.specs.Records.{kind_at, next, first_bad}
use Rattle.record.proofs.RecordsLaws.{layout_from, places_all, good_ok}
use Rattle.lexer.specs.Tokens.{payload_len, text_of, token_ok, TokenIs, token_layout}
use Rattle.lexer.proofs.TokensLaws.{token_good, token_is}
use Rattle.line_heads.specs.Lines.{record_at, records_of, is_parameter}
use Rattle.line_heads.proofs.RecordLaws.{kind_in, text_in, records_from, records_end, records_step}
use Rattle.macros.specs.Macros.{index_of, is_in, knows, known}

-- ---- one token
module _ (ps : List (List ℕ)) (s : List ℕ) (at : ℕ) (is : TokenIs s at) where
  pub other_known : (kind_at s at ≡ 2 → ⊥) → knows ps (record_at s at) ≡ true
  other_known h = let e : is_parameter (record_at s at) ≡ false = ap (λ (k : ℕ). eqb k 2) (kind_in s at is) ∙ ne_eqb (kind_at s at) 2 h in rw e

  pub parameter_known : kind_at s at ≡ 2 → knows ps (record_at s at) ≡ ltb (index_of (text_of s at) ps) (length ps)
  parameter_known h =
      let e : is_parameter (record_at s at) ≡ true = ap (λ (k : ℕ). eqb k 2) (kind_in s at is) ∙ eq-eqb (kind_at s at) 2 h in
      ap (λ (b : Bool). not b || is_in (text_of (record_at s at) 0) ps) e ∙ ap (λ (n : List ℕ). ltb (index_of n ps) (length ps)) (text_in s at is)

-- The bytes from behind the location to the next record are the token's text.
pub text_part : (s : List ℕ) (at e : ℕ) → e ≡ next s at → part s (at + 12) (e - (at + 12)) ≡ text_of s at
text_part s at e h =
    let k : e - (at + 12) ≡ payload_len s at = omega arith in
    ap (part s (at + 12)) k

-- ---- from a place on
module _ (ps : List (List ℕ)) (s : List ℕ) where
  abbrev pub known_from : ℕ → Bool
  known_from at = known ps (records_from s at)

  pub known_all : known ps (records_of s) ≡ known_from 0
  unfolding records_of
  known_all = ap (λ (l : List ℕ). known ps (map (record_at s) l)) (places_all s)

  pub known_end : (at : ℕ) → length s ≤ at → known_from at ≡ true
  unfolding known
  known_end at h = rw (records_end s at h)

  pub known_stop : (at : ℕ) → at < length s → TokenIs s at → knows ps (record_at s at) ≡ false → known_from at ≡ false
  unfolding known
  known_stop at h is e = ap (known ps) (records_step s at h is) ∙ ap (λ (b : Bool). b && known_from (next s at)) e

  pub known_next : (at : ℕ) → at < length s → TokenIs s at → knows ps (record_at s at) ≡ true → known_from at ≡ known_from (next s at)
  unfolding known
  known_next at h is e = ap (known ps) (records_step s at h is) ∙ ap (λ (b : Bool). b && known_from (next s at)) e

-- Takes the first place, `at`, off the list.
pub known_first : (ps : List (List ℕ)) (s places : List ℕ) (at : ℕ) (left : List ℕ) → places ≡ at ∷ left
    → known ps (map (record_at s) places) ≡ (knows ps (record_at s at) && known ps (map (record_at s) left))
unfolding known
known_first ps s places at left e = ap (λ (l : List ℕ). known ps (map (record_at s) l)) e

-- ---- a list of tokens that keeps its layout, from a place on
pub good_first : (s : List ℕ) → token_layout s ≡ None → layout_from (token_ok s) s 0 ≡ None
good_first s g = sym (ap (first_bad (token_ok s)) (places_all s)) ∙ (token_good s g).1

pub token_here : (s : List ℕ) (at : ℕ) → at < length s → layout_from (token_ok s) s at ≡ None → TokenIs s at
token_here s at h g = token_is s at (good_ok (token_ok s) s at h g)
