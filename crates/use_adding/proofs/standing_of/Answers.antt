use Rattle.std.proofs.Common.{true, false, refl, sym, ◌∙◌, arith}
use Rattle.use_adding.proofs.LabelsLaws.{standing_scanned}
use Rattle.use_adding.proofs.standing_of.Goals as goal

pub returns-then-has : goal.returns-then-has
returns-then-has g c = let a = c.args in (standing_scanned (g.L.Labels.list a.labels.now) a.source a.name.now true _ (sym c.has.ensures ∙ c.if-has.true) refl, omega arith)

pub returns-then-has-2 : goal.returns-then-has-2
returns-then-has-2 g c =
    let a = c.args in
    (standing_scanned (g.L.Labels.list a.labels.now) a.source a.name.now false true (sym c.has.ensures ∙ c.if-has.false) (sym c.has-2.ensures ∙ c.if-has-2.true), omega arith)

pub returns : goal.returns
returns g c =
    let a = c.args in
    (standing_scanned (g.L.Labels.list a.labels.now) a.source a.name.now false false (sym c.has.ensures ∙ c.if-has.false) (sym c.has-2.ensures ∙ c.if-has-2.false), omega arith)
