use Rattle.cursor.specs.Reads.{Placed}
use Rattle.cursor.proofs.start.Given as goal

abbrev pub invariant-loop-index : goal.invariant-loop-index
invariant-loop-index l = Placed l.list (record { index = l.index; at = l.at })
