use Rattle.std.proofs.Common.{arith}
use Rattle.record.proofs.WalkLaws.{turn}
use Rattle.name_index.proofs.fill.Goals as goal

pub overflow_cast-index : goal.overflow_cast-index
overflow_cast-index g c =
    let t = turn c.args.list.now _ _ _ (cc) c.loop-at.yielded_by c.in-Some.ensures.steps in
    record { fits = omega arith }
