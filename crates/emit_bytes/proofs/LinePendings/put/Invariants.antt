-- The records of the pairs from here on are left to put, and they have room.
use Rattle.std.proofs.Common.{◌≡◌, ◌+◌, ◌*◌, drop}
use Rattle.record.specs.Stores.{append}
use Rattle.emit_bytes.specs.Appended.{pendings_len, pendings_bytes}
use Rattle.emit_bytes.proofs.LinePendings.put.Given as goal

abbrev pub invariant-loop-pair : goal.invariant-loop-pair
invariant-loop-pair l =
    let tokens = l.fn.self.tokens.now in
    let left = drop l.pair-index l.pair-items in
    (l.to + pendings_len tokens left ≡ l.at + pendings_len tokens l.pair-items)
    × (l.from.offset ≡ l.fn.origin.offset + 4 * l.pair-index)
    × (append l.initial.d l.at (pendings_bytes tokens l.fn.origin l.pair-items) ≡ append l.d l.to (pendings_bytes tokens l.from left))
