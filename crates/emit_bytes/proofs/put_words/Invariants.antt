-- The buffer has the first words appended.
use Rattle.std.proofs.Common.{◌≡◌, ◌≤◌, take}
use Rattle.record.specs.Stores.{append}
use Rattle.emit_bytes.specs.Appended.{word_bytes}
use Rattle.emit_bytes.proofs.put_words.Given as goal

abbrev pub invariant-loop-i : goal.invariant-loop-i
invariant-loop-i l = (l.i ≤ l.fn.e.count) × (l.d ≡ append l.initial.d l.at (word_bytes (take l.i l.fn.e.instructions)))
