use Rattle.std.proofs.Common.{get_or, arith}
use Rattle.record.proofs.RecordsLaws.{good_at}
use Rattle.pending.specs.Pendings.{pending_ok, PendingIs}
use Rattle.pending.proofs.PendingsLaws.{pending_is}
use Rattle.index_check.proofs.CheckingLaws.{names_constant, names_named, names_end}
use Rattle.index_check.proofs.count_names.Goals as goal
use Rattle.index_check.proofs.count_names.Goals.{then-pending-from-ne-CONSTANT, else-pending-from-ne-CONSTANT}

pub bounds-pending-from : goal.bounds-pending-from
bounds-pending-from c =
    let a = c.args in
    let t : PendingIs a.pending.now c.from.result = rw c.from.ensures (pending_is 16 a.pending.now (get_or a.places.now c.loop-place.place-index 0) (good_at (pending_ok 16 a.pending.now) a.places.now c.requires c.loop-place.place-index c.loop-place-test.true)) in
    omega (arith, t.body, t.least)

pub loop-place-preserved : goal.loop-place-preserved
loop-place-preserved c =
    let l = c.loop-place in
    let a = c.args in
    elim c.if-pending-from-ne-CONSTANT.branch [
      | then-pending-from-ne-CONSTANT w ↦ (omega arith, omega (arith, w.n-is), omega (arith, w.n-is, l.invariant.2, names_named a.pending.now a.places.now l.place-index c.from.result c.loop-place-test.true c.from.ensures w.if-pending-from-ne-CONSTANT.true))
      | else-pending-from-ne-CONSTANT w ↦ (omega arith, omega (arith, w.n-is), omega (arith, w.n-is, l.invariant.2, names_constant a.pending.now a.places.now l.place-index c.from.result c.loop-place-test.true c.from.ensures w.if-pending-from-ne-CONSTANT.false))
    ]

pub returns : goal.returns
returns c = let l = c.loop-place in omega (arith, l.invariant.2, names_end c.args.pending.now c.args.places.now l.place-index (omega arith))
