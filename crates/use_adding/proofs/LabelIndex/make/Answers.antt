use Rattle.std.proofs.Common.{arith}
use Rattle.labels.proofs.LookupLaws.{label_count}
use Rattle.use_adding.proofs.LabelIndex.make.Goals as goal

pub make_index-requires-clause-places_in_bounds : goal.make_index-requires-clause-places_in_bounds
make_index-requires-clause-places_in_bounds c =
    let n = label_count c.args.labels.now c.requires.labels_value in
    (omega arith, omega arith)
