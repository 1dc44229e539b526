use Rattle.std.proofs.Common.{arith}
use Rattle.labels.proofs.LabelsLaws.{labels_named}
use Rattle.indexed_core.proofs.words_of.Goals as goal

pub new-requires : goal.new-requires
new-requires c = (omega arith, labels_named _ c.requires)
