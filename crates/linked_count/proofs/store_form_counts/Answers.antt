use Rattle.std.proofs.Common.{arith}
use Rattle.record.proofs.StoresLaws.{append_then}
use Rattle.linked_count.proofs.store_form_counts.Goals as goal

pub returns : goal.returns
returns c =
    let p2 = append_then _ _ _ _ _ c.put64.ensures c.put64-2.ensures (omega arith) (omega arith) in
    let p3 = append_then _ _ _ _ _ p2 c.put64-3.ensures (omega arith) (omega arith) in
    append_then _ _ _ _ _ p3 c.put64-4.ensures (omega arith) (omega arith)
