use Rattle.std.proofs.Common.{◌≤◌, length, drop}
use Rattle.text.specs.Text.{hex_bytes}
use Rattle.text.proofs.TextLaws.{Left}
use Rattle.text.proofs.lent.put_hex_bytes.Given as goal

-- Still to be written: the text of the bytes from the index on.
abbrev pub invariant-loop-byte : goal.invariant-loop-byte
invariant-loop-byte l =
    (l.byte-index ≤ length l.bytes) × Left l.initial.out l.at (hex_bytes l.bytes) l.out l.end (hex_bytes (drop l.byte-index l.bytes))
