use Rattle.std.proofs.Common.{arith}
use Rattle.index_check.proofs.PlacesLaws.{bodies_named, pendings_few}
use Rattle.index_check.proofs.check_uses.Goals as goal

pub new-requires : goal.new-requires
new-requires c = let b = c.bytes-pending.ensures in (omega arith, rw b.value (bodies_named c.args.pending.now b.kept.0))

pub fill-n-requires : goal.fill-n-requires
fill-n-requires c =
    let b = c.bytes-pending.ensures in
    (omega arith, rw (c.new.ensures, b.value) (b.kept.1, pendings_few c.args.pending.now b.kept.0 b.kept.1))
