use Rattle.std.proofs.Common.{sym, ap, ◌∙◌}
use Rattle.address_label.specs.LabelBytes.{name_bytes}
use Rattle.use_adding.proofs.MakingLaws.{constant_adds, named_owners}
use Rattle.use_adding.proofs.add_label.Goals as goal

pub returns-in-Constant-clause-adds : goal.returns-in-Constant-clause-adds
returns-in-Constant-clause-adds g c =
    let a = c.args in
    constant_adds a.index.now (g.L.Labels.list a.labels.now) a.names.now a.fill a.n a.label c.in-Constant.field-0 c.in-Constant.is

pub returns-in-Label-clause-owners : goal.returns-in-Label-clause-owners
returns-in-Label-clause-owners g c =
    let a = c.args in
    let k = c.key_of-key in
    let name = c.name_of-name in
    named_owners (g.L.Labels.list a.labels.now) a.names.now a.label c.in-Label.l c.in-Label.is name.result.now (name.ensures ∙ ap (name_bytes a.names.now) (sym c.in-Label.is)) k.result k.ensures.0 a.n k.ensures.1
