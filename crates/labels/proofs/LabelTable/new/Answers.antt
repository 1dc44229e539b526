use Rattle.labels.proofs.LookupLaws.{index_few}
use Rattle.labels.proofs.LabelTable.new.Goals as goal

pub invariant_of-result : goal.invariant_of-result
invariant_of-result c =
    record { layout = c.requires.0; distinct = c.requires.1; ordered = c.order.ensures.index_of; few = index_few _ _ c.requires.0 c.order.ensures.index_of }
