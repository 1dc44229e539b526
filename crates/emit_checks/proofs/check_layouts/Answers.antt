-- The first list or buffer that breaks its layout is the one that is named, and its place is at most 65,536.
use Rattle.std.specs.Prelude.{Err}
use Rattle.std.proofs.Common.{refl, sym, ap, ◌∙◌, arith}
use Rattle.std.proofs.lemmas.Result.{err_from_is_err_and}
use Rattle.refusal.specs.Verdicts.{layout_verdict}
use Rattle.refusal.proofs.VerdictsLaws.{verdict}
use Rattle.emit_checks.proofs.PlacesLaws.{data_place, pending_place, breakpoint_place}
use Rattle.emit_checks.proofs.ListsLaws.{stops_are}
use Rattle.emit_checks.proofs.check_layouts.Goals as goal

pub returns-in_err-check_line_lists : goal.returns-in_err-check_line_lists
returns-in_err-check_line_lists c =
    let p = err_from_is_err_and _ c.from_residual.ensures.1 in
    p.1 ∙ ap Err p.2 ∙ sym (stops_are _ _ _ _ _ _ (sym c.in_err-check_line_lists.ensures) refl refl refl)

pub check_layout-requires : goal.check_layout-requires
check_layout-requires c p e = omega (arith, data_place _ _ _ p (sym c.check_data_buffer.ensures ∙ e))

pub returns-in_err-check_layout : goal.returns-in_err-check_layout
returns-in_err-check_layout c =
    let p = err_from_is_err_and _ c.from_residual-in_err-check_layout.ensures.1 in
    p.1 ∙ ap Err p.2 ∙ sym (stops_are _ _ _ _ _ _ (sym c.in_ok-check_line_lists.ensures) (verdict (layout_verdict 3) c.check_data_buffer.ensures c.in_err-check_layout.ensures) refl refl)

pub check_layout-requires-2 : goal.check_layout-requires-2
check_layout-requires-2 c p e = omega (arith, pending_place _ _ p (sym c.check_pending_buffer.ensures ∙ e))

pub returns-in_err-check_layout-2 : goal.returns-in_err-check_layout-2
returns-in_err-check_layout-2 c =
    let p = err_from_is_err_and _ c.from_residual-in_err-check_layout-2.ensures.1 in
    p.1 ∙ ap Err p.2
    ∙ sym (stops_are _ _ _ _ _ _ (sym c.in_ok-check_line_lists.ensures) (verdict (layout_verdict 3) c.check_data_buffer.ensures c.in_ok-check_layout.ensures) (verdict (layout_verdict 4) c.check_pending_buffer.ensures c.in_err-check_layout-2.ensures) refl)

pub check_layout-requires-3 : goal.check_layout-requires-3
check_layout-requires-3 c p e = omega (arith, breakpoint_place _ _ p (sym c.check_breakpoint_buffer.ensures ∙ e))

pub returns : goal.returns
returns c = sym (stops_are _ _ _ _ _ _ (sym c.in_ok-check_line_lists.ensures) (verdict (layout_verdict 3) c.check_data_buffer.ensures c.in_ok-check_layout.ensures) (verdict (layout_verdict 4) c.check_pending_buffer.ensures c.in_ok-check_layout-2.ensures) (verdict (layout_verdict 5) c.check_breakpoint_buffer.ensures c.check_layout-3.ensures))
