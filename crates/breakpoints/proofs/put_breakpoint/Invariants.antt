use Rattle.std.proofs.Common.{◌+◌, ◌≡◌}
use Rattle.record.specs.Stores.{append}
use Rattle.breakpoints.specs.BreakpointBytes.{pcs_bytes}
use Rattle.breakpoints.proofs.put_breakpoint.Given as goal

-- The first pcs are appended behind the head and the location.
abbrev pub invariant-loop-i : goal.invariant-loop-i
invariant-loop-i l = l.d ≡ append l.initial.d (l.at + 12) (pcs_bytes l.i l.pcs.first)
