use Rattle.std.proofs.Common.{length, ◌≡◌, ◌≤◌, take}
use Rattle.record.specs.Stores.{append}
use Rattle.record.proofs.put_all.Given as goal

-- the buffer has the bytes copied so far appended
abbrev pub invariant-loop-i : goal.invariant-loop-i
invariant-loop-i l = (l.i ≤ length l.src) × (l.d ≡ append l.initial.d l.at (take l.i l.src))
