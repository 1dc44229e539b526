use Rattle.emit_core.proofs.EmitLaws.{table_as}
use Rattle.emit_core.proofs.dispatch_instruction.Goals as goal

pub returns : goal.returns
returns c = table_as _ _ _ _ _ c.instruction-instruction.ensures c.dispatch_encoding.ensures
