-- The first list that breaks its layout is the one that is named, and its place is at most 65,536.
use Rattle.std.specs.Prelude.{Err}
use Rattle.std.proofs.Common.{refl, sym, ap, ◌∙◌, arith}
use Rattle.std.proofs.lemmas.Result.{err_from_is_err_and}
use Rattle.refusal.specs.Verdicts.{layout_verdict}
use Rattle.refusal.proofs.VerdictsLaws.{verdict}
use Rattle.lexer.proofs.TokensLaws.{token_place}
use Rattle.emit_checks.proofs.PlacesLaws.{mnemonic_place, descriptor_place}
use Rattle.emit_checks.proofs.ListsLaws.{line_lists_are}
use Rattle.emit_checks.proofs.check_line_lists.Goals as goal

pub check_layout-requires : goal.check_layout-requires
check_layout-requires c p e = omega (arith, token_place _ p (sym c.first_bad_token.ensures ∙ e))

pub returns-in_err-check_layout : goal.returns-in_err-check_layout
returns-in_err-check_layout c =
    let p = err_from_is_err_and _ c.from_residual.ensures.1 in
    p.1 ∙ ap Err p.2 ∙ sym (line_lists_are _ _ _ (verdict (layout_verdict 0) c.first_bad_token.ensures c.in_err-check_layout.ensures) refl refl)

pub check_layout-requires-2 : goal.check_layout-requires-2
check_layout-requires-2 c p e = omega (arith, mnemonic_place _ p (sym c.first_bad_mnemonic.ensures ∙ e))

pub returns-in_err-check_layout-2 : goal.returns-in_err-check_layout-2
returns-in_err-check_layout-2 c =
    let p = err_from_is_err_and _ c.from_residual-in_err-check_layout-2.ensures.1 in
    p.1 ∙ ap Err p.2
    ∙ sym (line_lists_are _ _ _ (verdict (layout_verdict 0) c.first_bad_token.ensures c.in_ok-check_layout.ensures) (verdict (layout_verdict 1) c.first_bad_mnemonic.ensures c.in_err-check_layout-2.ensures) refl)

pub check_layout-requires-3 : goal.check_layout-requires-3
check_layout-requires-3 c p e = omega (arith, descriptor_place _ p (sym c.first_bad_descriptor.ensures ∙ e))

pub returns : goal.returns
returns c = sym (line_lists_are _ _ _ (verdict (layout_verdict 0) c.first_bad_token.ensures c.in_ok-check_layout.ensures) (verdict (layout_verdict 1) c.first_bad_mnemonic.ensures c.in_ok-check_layout-2.ensures) (verdict (layout_verdict 2) c.first_bad_descriptor.ensures c.check_layout-3.ensures))
