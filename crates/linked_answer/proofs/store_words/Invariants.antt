use Rattle.std.proofs.Common.{◌≡◌, ◌≤◌, length, take, map}
use Rattle.record.specs.Stores.{append}
use Rattle.emit_pairs.specs.Pairs.{plain}
use Rattle.emit_bytes.specs.Appended.{word_bytes}
use Rattle.linked_answer.proofs.store_words.Given as goal

abbrev pub invariant-loop-i : goal.invariant-loop-i
invariant-loop-i l = (l.i ≤ length l.words) × (length l.d ≡ length l.initial.d) × (l.d ≡ append l.initial.d 0 (word_bytes (take l.i (map plain l.words))))
