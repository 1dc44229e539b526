use Rattle.std.specs.Prelude.{None}
use Rattle.std.proofs.Common.{◌≡◌, ℕ, length, sym, ap, ◌∙◌, arith}
use Rattle.std.proofs.lemmas.Result.{err_from_is_err_and}
use Rattle.record.proofs.RecordsLaws.{limit_bad}
use Rattle.refusal.specs.Verdicts.{layout_verdict}
use Rattle.refusal.proofs.VerdictsLaws.{layout_pass}
use Rattle.lexer.specs.Tokens.{token_layout}
use Rattle.lexer.proofs.TokensLaws.{token_place}
use Rattle.macros.specs.Macros.{macro_layout}
use Rattle.write_out.proofs.EntryLaws.{macro_place, repeat_place, first_stops, second_stops, third_stops, names_left, room_is}
use Rattle.write_out.proofs.check.Goals as goal
use Rattle.write_out.proofs.check.Goals.{After-first_bad_macro, After-first_repeat}

pub check_layout-requires : goal.check_layout-requires
check_layout-requires c = λ p e. omega (arith, token_place c.args.tokens.now p (sym c.first_bad_token.ensures ∙ e))

pub returns-in_err-check_layout : goal.returns-in_err-check_layout
returns-in_err-check_layout c =
    let a = c.args in
    let p = err_from_is_err_and c.from_residual.result c.from_residual.ensures.1 in
    rw (p.1, p.2)
    (sym (first_stops a.tokens.now a.macros.now (length a.out.now) _ (ap (layout_verdict 0) (sym c.first_bad_token.ensures) ∙ sym c.check_layout.ensures ∙ c.in_err-check_layout.was)))

tokens_good : (c : After-first_bad_macro) → token_layout c.args.tokens.now ≡ None
tokens_good c = sym c.first_bad_token.ensures ∙ layout_pass 0 c.first_bad_token.result (sym c.check_layout.ensures ∙ c.in_ok-check_layout.was)

pub check_layout-requires-2 : goal.check_layout-requires-2
check_layout-requires-2 c = λ p e. omega (arith, macro_place c.args.macros.now p (sym c.first_bad_macro.ensures ∙ e))

pub returns-in_err-check_layout-2 : goal.returns-in_err-check_layout-2
returns-in_err-check_layout-2 c =
    let a = c.args in
    let p = err_from_is_err_and c.from_residual-in_err-check_layout-2.result c.from_residual-in_err-check_layout-2.ensures.1 in
    let g = tokens_good (goal.at.returns-in_err-check_layout-2 c).After-first_bad_macro in
    rw (p.1, p.2)
    (sym (second_stops a.tokens.now a.macros.now (length a.out.now) g _ (ap (layout_verdict 1) (sym c.first_bad_macro.ensures) ∙ sym c.check_layout-2.ensures ∙ c.in_err-check_layout-2.was)))

pub check_layout-requires-3 : goal.check_layout-requires-3
check_layout-requires-3 c p e =
    omega (arith, limit_bad c.args.out.now None p (sym c.past_limit.ensures ∙ e) (λ none. let z : ◌≡◌ {A = ℕ} 0 1 = cc in absurd (omega arith)))

pub returns-in_err-check_layout-3 : goal.returns-in_err-check_layout-3
returns-in_err-check_layout-3 c =
    let a = c.args in
    let p = err_from_is_err_and c.from_residual-in_err-check_layout-3.result c.from_residual-in_err-check_layout-3.ensures.1 in
    let g = tokens_good (goal.at.returns-in_err-check_layout-3 c).After-first_bad_macro in
    let m = sym c.first_bad_macro.ensures ∙ layout_pass 1 c.first_bad_macro.result (sym c.check_layout-2.ensures ∙ c.in_ok-check_layout-2.was) in
    let r = sym (c.past_limit.ensures ∙ room_is a.out.now) in
    rw (p.1, p.2)
    (sym (third_stops a.tokens.now a.macros.now (length a.out.now) g m _ (ap (layout_verdict 2) r ∙ sym c.check_layout-3.ensures ∙ c.in_err-check_layout-3.was)))

macros_good : (c : After-first_repeat) → macro_layout c.args.macros.now ≡ None
macros_good c = sym c.first_bad_macro.ensures ∙ layout_pass 1 c.first_bad_macro.result (sym c.check_layout-2.ensures ∙ c.in_ok-check_layout-2.was)

pub check_names-requires : goal.check_names-requires
check_names-requires c =
    let g = macros_good (goal.at.check_names-requires c).After-first_repeat in
    λ p e. omega (arith, repeat_place c.args.macros.now p g (sym c.first_repeat.ensures ∙ e))

pub returns : goal.returns
returns c =
    let a = c.args in
    let g = goal.at.returns c in
    let r = sym (c.past_limit.ensures ∙ room_is a.out.now) ∙ layout_pass 2 c.past_limit.result (sym c.check_layout-3.ensures ∙ c.in_ok-check_layout-3.was) in
    c.check_names.ensures
    ∙ sym (names_left a.tokens.now a.macros.now (length a.out.now) (tokens_good g.After-first_bad_macro) (macros_good g.After-first_repeat) r _ (sym c.first_repeat.ensures))
