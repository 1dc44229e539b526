use Rattle.std.proofs.Common.{arith}
use Rattle.record.proofs.StoresLaws.{append_then}
use Rattle.record.proofs.put_head.Goals as goal

pub returns : goal.returns
returns c = append_then _ _ _ _ _ c.put16.ensures c.put16-2.ensures (omega arith) (omega arith)
