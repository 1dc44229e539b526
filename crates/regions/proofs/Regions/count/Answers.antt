use Rattle.std.proofs.Common.{arith}
use Rattle.std.proofs.lemmas.Iterator.Consumers.{count_from_yields_List, YieldsList-from_first}
use Rattle.record.specs.Left.{places_left}
use Rattle.regions.proofs.RegionsLaws.{region_good}
use Rattle.regions.proofs.Regions.count.Goals as goal

pub returns : goal.returns
returns c =
    let n = count_from_yields_List c.places.result _ c.count.ensures.ran (YieldsList-from_first (λ x. x) places_left _ c.places.ensures.value) in
    let few = (region_good c.self.inside.bytes.now c.self.invariant).3 in
    rw (← c.self.view_is) (n, omega (arith, n, few))
