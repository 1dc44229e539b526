use Rattle.regions.proofs.RegionsLaws.{region_good}
use Rattle.patching_step.proofs.stopped_step.Goals as goal

pub new-patches-requires-clause-listed : goal.new-patches-requires-clause-listed
new-patches-requires-clause-listed c =
    let l = c.requires.lists in
    record { count = _; at_most = (region_good _ l.regions_filled.good).3; kept = l.pending_good }
