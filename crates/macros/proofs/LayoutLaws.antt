-- Laws of the layout of a macro list: each way that the test of a macro goes. Assumes nothing.
use Rattle.std.specs.Prelude.{ℕ, ◌+◌, ◌-◌, ◌≤◌, ◌<◌, List, map, Bool, true, false, ◌&&◌, ◌≡◌, length, take, drop, leb, ltb, None, Option, Some}
use Rattle.std.proofs.Common.{arith, sym, ◌∙◌, length-drop, take_all, lt-ltb, le-ltb, le-leb, ltb-true, leb-true, eq-eqb, ne_eqb}
use Rattle.std.proofs.Math.Bool.{and-eq-true_iff}
use Rattle.std.proofs.Math.Path.{refl, ap, ap₂}
use Rattle.std.proofs.Math.Dec.{eqb}
use Rattle.std.proofs.lemmas.Bool.{lt-leb}
use Rattle.record.specs.Bytes.{part, all}
use Rattle.record.specs.Records.{body_len, kind_at, next, whole, places, first_bad, limit}
use Rattle.record.proofs.RecordsLaws.{layout_from, places_all, limit_kept, limit_passed}
use Rattle.lexer.specs.Tokens.{token_layout}
use Rattle.line_heads.specs.Lines.{records_of}
use Rattle.macros.specs.Macros.{name_at, behind_name, name_ok, behind_names, count_of, parameter_places, body_tokens, macro_of, different, known, is_good, macro_ok, body_at, macro_at_ok, macro_layout}

module _ (b : List ℕ) where
  -- the tests, in order
  abbrev t₁ : Bool
  t₁ = name_ok b 0

  abbrev t₂ : Bool
  t₂ = ltb (behind_name b 0) (length b)

  abbrev t₃ : Bool
  t₃ = leb (count_of b) 8

  abbrev t₄ : Bool
  t₄ = all (name_ok b) (parameter_places b)

  abbrev t₅ : Bool
  t₅ = different (map (name_at b) (parameter_places b))

  abbrev t₆ : Bool
  t₆ = is_good (token_layout (body_tokens b))

  abbrev t₇ : Bool
  t₇ = known (map (name_at b) (parameter_places b)) (records_of (body_tokens b))

  tests : macro_ok b ≡ (t₁ && t₂ && t₃ && t₄ && t₅ && t₆ && t₇)
  unfolding macro_ok macro_of
  tests = refl

  pub no_name : t₁ ≡ false → macro_ok b ≡ false
  no_name e = tests ∙ ap (λ (x : Bool). x && t₂ && t₃ && t₄ && t₅ && t₆ && t₇) e

  module _ (h₁ : t₁ ≡ true) where
    ok₁ : macro_ok b ≡ (t₂ && t₃ && t₄ && t₅ && t₆ && t₇)
    ok₁ = tests ∙ ap (λ (x : Bool). x && t₂ && t₃ && t₄ && t₅ && t₆ && t₇) h₁

    pub no_count : length b ≤ behind_name b 0 → macro_ok b ≡ false
    no_count h = ok₁ ∙ ap (λ (x : Bool). x && t₃ && t₄ && t₅ && t₆ && t₇) (le-ltb (behind_name b 0) (length b) h)

    module _ (h₂ : behind_name b 0 < length b) where
      ok₂ : macro_ok b ≡ (t₃ && t₄ && t₅ && t₆ && t₇)
      ok₂ = ok₁ ∙ ap (λ (x : Bool). x && t₃ && t₄ && t₅ && t₆ && t₇) (lt-ltb (behind_name b 0) (length b) h₂)

      pub over_count : 8 < count_of b → macro_ok b ≡ false
      over_count h = ok₂ ∙ ap (λ (x : Bool). x && t₄ && t₅ && t₆ && t₇) (lt-leb (count_of b) 8 h)

      module _ (h₃ : count_of b ≤ 8) where
        ok₃ : macro_ok b ≡ (t₄ && t₅ && t₆ && t₇)
        ok₃ = ok₂ ∙ ap (λ (x : Bool). x && t₄ && t₅ && t₆ && t₇) (le-leb (count_of b) 8 h₃)

        pub no_names : t₄ ≡ false → macro_ok b ≡ false
        no_names e = ok₃ ∙ ap (λ (x : Bool). x && t₅ && t₆ && t₇) e

        module _ (h₄ : t₄ ≡ true) where
          ok₄ : macro_ok b ≡ (t₅ && t₆ && t₇)
          ok₄ = ok₃ ∙ ap (λ (x : Bool). x && t₅ && t₆ && t₇) h₄

          pub same_names : t₅ ≡ false → macro_ok b ≡ false
          same_names e = ok₄ ∙ ap (λ (x : Bool). x && t₆ && t₇) e

          module _ (h₅ : t₅ ≡ true) where
            ok₅ : macro_ok b ≡ (t₆ && t₇)
            ok₅ = ok₄ ∙ ap (λ (x : Bool). x && t₆ && t₇) h₅

            pub bad_tokens : t₆ ≡ false → macro_ok b ≡ false
            bad_tokens e = ok₅ ∙ ap (λ (x : Bool). x && t₇) e

            pub as_known : t₆ ≡ true → macro_ok b ≡ t₇
            as_known e = ok₅ ∙ ap (λ (x : Bool). x && t₇) e

-- What a macro's bytes keep when their test passes.
pub record Parts (b : List ℕ) : Type 0 where
  pub name_ok_lem : name_ok b 0 ≡ true
  pub counted : behind_name b 0 < length b
  pub few : count_of b ≤ 8
  pub names_ok : all (name_ok b) (parameter_places b) ≡ true
  pub tokens_good : token_layout (body_tokens b) ≡ None

pub good_is : (l : Option ℕ) → is_good l ≡ true → l ≡ None
good_is None e = refl
good_is (Some p) e = cc

pub parts_of : (b : List ℕ) → macro_ok b ≡ true → Parts b
parts_of b e =
    let h₇ = (and-eq-true_iff (t₁ b && t₂ b && t₃ b && t₄ b && t₅ b && t₆ b) (t₇ b)).0 (sym (tests b) ∙ e) in
    let h₆ = (and-eq-true_iff (t₁ b && t₂ b && t₃ b && t₄ b && t₅ b) (t₆ b)).0 h₇.0 in
    let h₅ = (and-eq-true_iff (t₁ b && t₂ b && t₃ b && t₄ b) (t₅ b)).0 h₆.0 in
    let h₄ = (and-eq-true_iff (t₁ b && t₂ b && t₃ b) (t₄ b)).0 h₅.0 in
    let h₃ = (and-eq-true_iff (t₁ b && t₂ b) (t₃ b)).0 h₄.0 in
    let h₂ = (and-eq-true_iff (t₁ b) (t₂ b)).0 h₃.0 in
    record {
      name_ok_lem = h₂.0;
      counted = ltb-true (behind_name b 0) (length b) h₂.1;
      few = leb-true (count_of b) 8 h₃.1;
      names_ok = h₄.1;
      tokens_good = good_is (token_layout (body_tokens b)) h₆.1;
    }

-- ---- the record
module _ (s : List ℕ) (at : ℕ) where
  pub at_cut : whole s at ≡ false → macro_at_ok s at ≡ false
  unfolding macro_at_ok
  at_cut e = ap (λ (x : Bool). x && eqb (kind_at s at) 40 && macro_ok (body_at s at)) e

  pub at_other : whole s at ≡ true → (kind_at s at ≡ 40 → ⊥) → macro_at_ok s at ≡ false
  unfolding macro_at_ok
  at_other e h = ap₂ (λ (x y : Bool). x && y && macro_ok (body_at s at)) e (ne_eqb (kind_at s at) 40 h)

  pub at_macro : whole s at ≡ true → kind_at s at ≡ 40 → macro_at_ok s at ≡ macro_ok (body_at s at)
  unfolding macro_at_ok
  at_macro e h = ap₂ (λ (x y : Bool). x && y && macro_ok (body_at s at)) e (eq-eqb (kind_at s at) 40 h)

  pub at_whole : macro_at_ok s at ≡ true → whole s at ≡ true
  unfolding macro_at_ok
  at_whole e = ((and-eq-true_iff (whole s at) (eqb (kind_at s at) 40)).0 ((and-eq-true_iff (whole s at && eqb (kind_at s at) 40) (macro_ok (body_at s at))).0 e).0).0

pub body_part : (s : List ℕ) (at e : ℕ) → e ≡ next s at → part s (at + 4) (e - (at + 4)) ≡ body_at s at
body_part s at e h =
    let k : e - (at + 4) ≡ body_len s at = omega arith in
    ap (part s (at + 4)) k

-- ---- the list
pub macro_kept : (s : List ℕ) → length s ≤ limit → macro_layout s ≡ layout_from (macro_at_ok s) s 0
unfolding macro_layout
macro_kept s h = limit_kept s (first_bad (macro_at_ok s) (places s)) h ∙ ap (first_bad (macro_at_ok s)) (places_all s)

pub macro_passed : (s : List ℕ) → limit < length s → macro_layout s ≡ Some limit
unfolding macro_layout
macro_passed s h = limit_passed s (first_bad (macro_at_ok s) (places s)) h

-- The bytes behind the names are the body's tokens.
pub tokens_part : (b : List ℕ) (end m i : ℕ) → end ≡ behind_names m b (i + 1) → m ≡ count_of b → i ≡ behind_name b 0 → take (length b - end) (drop end b) ≡ body_tokens b
tokens_part b end m i e k n =
    take_all (length b - end) (drop end b) (omega (arith, length-drop end b)) ∙ ap (λ (j : ℕ). drop j b) (e ∙ ap₂ (λ (x y : ℕ). behind_names x b (y + 1)) k n)
