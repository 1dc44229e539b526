use Rattle.std.proofs.Common.{sym, ap, ◌∙◌, arith}
use Rattle.name_index.specs.declared.Looked.{Looked}
use Rattle.labels.proofs.LabelsLaws.{found_label, labels_within}
use Rattle.labels.proofs.LookupLaws.{indexed_as, looked_up_lem}
use Rattle.labels.proofs.LabelTable.find.Goals as goal

pub returns-clause-found : goal.returns-clause-found
returns-clause-found c =
    ap (λ (l : Looked). l.named) c.look_up.ensures
    ∙ looked_up_lem _ _ (indexed_as _ _ c.self.view_is c.self.invariant) c.args.source _

pub returns-clause-within : goal.returns-clause-within
returns-clause-within c = λ p e.
    let i = indexed_as _ _ c.self.view_is c.self.invariant in
    let f = ap (λ (l : Looked). l.named) c.look_up.ensures ∙ looked_up_lem _ _ i c.args.source _ in
    let l = found_label _ c.args.source _ p i.layout (sym f ∙ e) in
    omega (arith, l.body, l.least, labels_within _ i.layout)
