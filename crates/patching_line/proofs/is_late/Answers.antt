use Rattle.std.proofs.Common.{ℕ, ap, ◌∙◌, arith}
use Rattle.std.proofs.lemmas.List.{length-replicate}
use Rattle.pending.specs.Pendings.{pending_at}
use Rattle.binary_builder.specs.Steps.{most_pendings}
use Rattle.patching_outcome.specs.Patching.{filled_pendings}
use Rattle.patching_line.proofs.LateLaws.{last_in, last_pending, late_by}
use Rattle.patching_line.proofs.is_late.Goals as goal

pub bounds-order-last : goal.bounds-order-last
bounds-order-last c =
    let a = c.args in
    let o = c.order_patches-last in
    omega (arith, last_in a.regions.now a.pending.now a.counts a.region c.requires (omega arith) o.result o.new.order o.ensures, length-replicate {A = ℕ} most_pendings 0)

pub read_pending-patch-requires : goal.read_pending-patch-requires
read_pending-patch-requires c =
    let a = c.args in
    let o = c.order_patches-last in
    rw c.from.ensures (last_pending a.regions.now a.pending.now a.counts a.region c.requires (omega arith) o.result o.new.order o.ensures)

pub returns : goal.returns
returns c =
    let a = c.args in
    let o = c.order_patches-last in
    rw c.from-2.ensures
    (late_by a.regions.now a.pending.now a.counts a.region c.requires (omega arith) o.result o.new.order o.ensures c.if-counts-ne-RUNNING.false _
    (c.read_pending-patch.ensures ∙ ap (pending_at (filled_pendings a.pending.now a.counts)) c.from.ensures))
