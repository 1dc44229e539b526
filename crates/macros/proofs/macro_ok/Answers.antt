use Rattle.std.specs.Prelude.{None, Some, Option}
use Rattle.std.specs.Option.{is_some}
use Rattle.std.proofs.Common.{refl, ◌≡◌, ◌<◌, length, true, false, ℕ, ◌+◌, List, map, sym, ap, ap₂, ◌∙◌, arith}
use Rattle.record.specs.Bytes.{byte_at}
use Rattle.lexer.specs.Tokens.{token_layout}
use Rattle.line_heads.specs.Lines.{records_of}
use Rattle.macros.specs.Macros.{behind_name, name_at, name_places, known, is_good}
use Rattle.macros.proofs.NamesLaws.{all_ok, differ_from}
use Rattle.macros.proofs.LayoutLaws.{no_name, no_count, over_count, no_names, same_names, bad_tokens, as_known, tokens_part}
use Rattle.macros.proofs.macro_ok.Goals as goal
use Rattle.macros.proofs.macro_ok.Goals.{then-count-gt-MOST-via-then-count-gt-MOST, then-count-gt-MOST-via-else-count-gt-MOST+then-not-names_ok}

is_kept : (l : Option ℕ) → is_some l ≡ false → is_good l ≡ true
is_kept None e = refl
is_kept (Some p) e = cc

is_broken : (l : Option ℕ) → is_some l ≡ true → is_good l ≡ false
is_broken None e = cc
is_broken (Some p) e = refl

pub returns-then-not-name_ok : goal.returns-then-not-name_ok
returns-then-not-name_ok c = sym (no_name c.args.list.now (sym c.if-not-name_ok.ensures))

pub returns-then-list-at : goal.returns-then-list-at
returns-then-list-at c =
    sym (no_count c.args.list.now (sym c.if-not-name_ok.ensures) (omega (arith, c.behind_name-at.ensures.0)))

pub returns-then-count-gt-MOST : goal.returns-then-count-gt-MOST
returns-then-count-gt-MOST c =
    let b = c.args.list.now in
    let n = c.behind_name-at.ensures.0 in
    let k = c.from-count.ensures ∙ ap (byte_at b) n in
    let h₁ = sym c.if-not-name_ok.ensures in
    let h₂ : behind_name b 0 < length b = omega (arith, n) in
    elim c.then-count-gt-MOST.branch [
      | then-count-gt-MOST-via-then-count-gt-MOST w ↦ sym (over_count b h₁ h₂ (omega (arith, k, w.if-count-gt-MOST.true)))
      | then-count-gt-MOST-via-else-count-gt-MOST+then-not-names_ok w ↦
          sym (no_names b h₁ h₂ (omega (arith, k, w.if-count-gt-MOST.false)) (sym (w.if-not-names_ok.ensures ∙ ap₂ (λ (m i : ℕ). all_ok b m (i + 1)) k n)))
    ]

pub returns-then-not-differ : goal.returns-then-not-differ
returns-then-not-differ c =
    let b = c.args.list.now in
    let n = c.behind_name-at.ensures.0 in
    let k = c.from-count.ensures ∙ ap (byte_at b) n in
    let h₄ = sym (c.if-not-names_ok.ensures ∙ ap₂ (λ (m i : ℕ). all_ok b m (i + 1)) k n) in
    let h₅ = sym (c.if-not-differ.ensures ∙ ap₂ (λ (m i : ℕ). differ_from b m (i + 1)) k n) in
    sym (same_names b (sym c.if-not-name_ok.ensures) (omega (arith, n)) (omega (arith, k)) h₄ h₅)

pub returns-then-is_none : goal.returns-then-is_none
returns-then-is_none c =
    let b = c.args.list.now in
    let n = c.behind_name-at.ensures.0 in
    let k = c.from-count.ensures ∙ ap (byte_at b) n in
    let h₄ = sym (c.if-not-names_ok.ensures ∙ ap₂ (λ (m i : ℕ). all_ok b m (i + 1)) k n) in
    let h₅ = sym (c.if-not-differ.ensures ∙ ap₂ (λ (m i : ℕ). differ_from b m (i + 1)) k n) in
    let x = tokens_part b c.behind-end.result _ _ c.behind-end.ensures.0 k n in
    let g = is_kept _ (ap is_some (sym (c.first_bad_token.ensures ∙ ap token_layout x)) ∙ c.if-is_none.ensures) in
    let ps = ap₂ (λ (m i : ℕ). map (name_at b) (name_places m b (i + 1))) k n in
    c.know_all.ensures ∙ ap₂ (λ (y : List (List ℕ)) (z : List ℕ). known y (records_of z)) ps x
    ∙ sym (as_known b (sym c.if-not-name_ok.ensures) (omega (arith, n)) (omega (arith, k)) h₄ h₅ g)

pub returns-else-is_none : goal.returns-else-is_none
returns-else-is_none c =
    let b = c.args.list.now in
    let n = c.behind_name-at.ensures.0 in
    let k = c.from-count.ensures ∙ ap (byte_at b) n in
    let h₄ = sym (c.if-not-names_ok.ensures ∙ ap₂ (λ (m i : ℕ). all_ok b m (i + 1)) k n) in
    let h₅ = sym (c.if-not-differ.ensures ∙ ap₂ (λ (m i : ℕ). differ_from b m (i + 1)) k n) in
    let x = tokens_part b c.behind-end.result _ _ c.behind-end.ensures.0 k n in
    let g = is_broken _ (ap is_some (sym (c.first_bad_token.ensures ∙ ap token_layout x)) ∙ c.if-is_none.ensures) in
    c.if-is_none.false ∙ sym (bad_tokens b (sym c.if-not-name_ok.ensures) (omega (arith, n)) (omega (arith, k)) h₄ h₅ g)
