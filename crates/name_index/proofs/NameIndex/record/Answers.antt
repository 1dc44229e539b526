use Rattle.std.proofs.Common.{length, ◌<◌, ap, arith}
use Rattle.name_index.specs.Ordered.{Ordered}
use Rattle.name_index.proofs.IndexLaws.{named_at}
use Rattle.name_index.proofs.NameIndex.record.Goals as goal

pub new-requires : goal.new-requires
new-requires g c =
    let i = c.self.inside in
    let h : c.args.i < length i.order.now = omega (arith, ap (λ (v : Ordered). length v.order) c.self.view_is) in
    (omega arith, rw (c.bytes.ensures.value, c.from.ensures) (named_at g.row.SKIP i.list i.order.now c.self.invariant c.bytes.ensures.named c.args.i h))
