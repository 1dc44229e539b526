use Rattle.std.proofs.Common.{arith}
use Rattle.std.proofs.lemmas.Iterator.Consumers.{count_from_yields_List, YieldsList-from_first}
use Rattle.record.specs.Left.{places_left}
use Rattle.binary_builder.proofs.OrderLaws.{pendings_few}
use Rattle.patching_checks.proofs.count_pendings.Goals as goal

pub returns : goal.returns
returns c =
    let n = count_from_yields_List c.places.result _ c.count.ensures.ran (YieldsList-from_first (λ x. x) places_left _ c.places.ensures.value) in
    (n, omega (arith, n, pendings_few c.requires.regions c.args.pending.now c.requires.kept))
