use Rattle.std.proofs.Common.{◌∙◌, arith}
use Rattle.labels.proofs.LabelsLaws.{labels_named, labels_within}
use Rattle.labels.proofs.LookupLaws.{index_few}
use Rattle.labels.proofs.make_index.Goals as goal

pub new-requires : goal.new-requires
new-requires c = (omega arith, labels_named _ c.requires.labels_value)

pub make-requires : goal.make-requires
make-requires c =
    rw c.new.ensures (omega arith, (omega arith, (labels_within _ c.requires.labels_value, (omega arith, omega arith))))

pub returns : goal.returns
returns c =
    let e = c.make.ensures.0 ∙ c.new.ensures in
    (e, index_few _ _ (rw e c.requires.labels_value) c.make.ensures.1, c.make.ensures.1)
