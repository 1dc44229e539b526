use Rattle.std.specs.Prelude.{None}
use Rattle.std.proofs.Common.{◌≡◌, refl, sym, ap, ◌∙◌, arith}
use Rattle.std.proofs.lemmas.Result.{err_from_is_err_and}
use Rattle.refusal.specs.Verdicts.{name_verdict}
use Rattle.refusal.proofs.VerdictsLaws.{name_pass}
use Rattle.labels.specs.Labels.{label_repeat}
use Rattle.labels.proofs.LabelsLaws.{repeat_place}
use Rattle.labels.proofs.LabelTable.make.Goals as goal
use Rattle.labels.proofs.LabelTable.make.Goals.{After-first_repeat, In_ok-check_names}

-- what repeats a name of the index's list is what repeats one of the labels
repeated : (c : After-first_repeat) → c.first_repeat.result ≡ label_repeat c.args.labels.now
repeated c = rw (← c.make_index-index.ensures.0) c.first_repeat.ensures

distinct : (c : In_ok-check_names) → label_repeat c.args.labels.now ≡ None
distinct c = sym (repeated (goal.at.In_ok-check_names c).After-first_repeat) ∙ name_pass _ _ (sym c.in_ok-check_names.ensures)

pub check_names-requires : goal.check_names-requires
check_names-requires c = λ place e.
    omega (arith, repeat_place c.args.labels.now place c.requires.labels_value (sym (repeated (goal.at.check_names-requires c).After-first_repeat) ∙ e))

pub returns-in_err-check_names : goal.returns-in_err-check_names
returns-in_err-check_names c =
    let p = err_from_is_err_and c.from_residual.result c.from_residual.ensures.1 in
    rw (p.1, p.2) (sym (c.in_err-check_names.ensures ∙ ap (name_verdict 0) (repeated (goal.at.returns-in_err-check_names c).After-first_repeat)))

pub new-requires : goal.new-requires
new-requires c = rw c.make_index-index.ensures.0 (c.requires.labels_value, distinct (goal.at.new-requires c).In_ok-check_names)

pub returns : goal.returns
returns c =
    let m = c.make_index-index.ensures in
    rw (c.new.ensures, m.0) (
      refl,
      record { layout = c.requires.labels_value; distinct = distinct (goal.at.returns c).In_ok-check_names; ordered = rw m.0 at m.2; few = m.1 },
    )
