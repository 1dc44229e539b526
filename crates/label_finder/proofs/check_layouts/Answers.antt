use Rattle.std.specs.Prelude.{None}
use Rattle.std.proofs.Common.{ℕ, ◌≡◌, sym, ap, ◌∙◌, arith}
use Rattle.std.proofs.lemmas.Result.{err_from_is_err_and}
use Rattle.record.proofs.RecordsLaws.{limit_bad}
use Rattle.refusal.specs.Verdicts.{layout_verdict}
use Rattle.refusal.proofs.VerdictsLaws.{layout_pass}
use Rattle.labels.proofs.LabelsLaws.{label_place_lem}
use Rattle.label_finder.proofs.FindLaws.{labels_stop, labels_good}
use Rattle.label_finder.proofs.check_layouts.Goals as goal

pub check_layout-requires : goal.check_layout-requires
check_layout-requires c = λ place e. omega (arith, label_place_lem c.args.labels.now place (sym c.first_bad_label.ensures ∙ e))

pub returns-in_err-check_layout : goal.returns-in_err-check_layout
returns-in_err-check_layout c =
    let p = err_from_is_err_and c.from_residual.result c.from_residual.ensures.1 in
    rw (p.1, p.2) (labels_stop _ _ _ (c.in_err-check_layout.ensures ∙ ap (layout_verdict 0) c.first_bad_label.ensures))

pub check_layout-requires-2 : goal.check_layout-requires-2
check_layout-requires-2 c = λ place e. omega (arith, limit_bad c.args.name.now None place (sym c.past_limit.ensures ∙ e) (λ none. let z : ◌≡◌ {A = ℕ} 0 1 = cc in absurd (omega arith)))

pub returns : goal.returns
returns c =
    c.check_layout-2.ensures ∙ ap (layout_verdict 1) c.past_limit.ensures
    ∙ sym (labels_good _ _ (sym c.first_bad_label.ensures ∙ layout_pass 0 _ (sym c.in_ok-check_layout.ensures)))
