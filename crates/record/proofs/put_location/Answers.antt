use Rattle.std.proofs.Common.{arith}
use Rattle.record.proofs.StoresLaws.{append_then}
use Rattle.record.proofs.put_location.Goals as goal

pub returns : goal.returns
returns c = append_then _ _ _ _ _ c.put32.ensures c.put32-2.ensures (omega arith) (omega arith)
