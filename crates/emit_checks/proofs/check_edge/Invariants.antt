-- The answer is that of the words from here on.
use Rattle.std.proofs.Common.{◌≡◌, ◌+◌, ◌-◌, ◌*◌}
use Rattle.emit_outcome.specs.Room.{edge_stop}
use Rattle.emit_checks.proofs.check_edge.Given as goal

abbrev pub invariant-loop-i : goal.invariant-loop-i
invariant-loop-i l =
    let size = l.fn.numbers.counts.data_len in
    edge_stop l.line l.address l.n size ≡ edge_stop l.line l.address (l.n - l.i) (size + 4 * l.i)
