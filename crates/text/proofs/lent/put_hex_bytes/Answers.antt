use Rattle.std.proofs.Common.{◌+◌, ◌++◌, drop, get_or, arith}
use Rattle.io.specs.Digits.{last_digits}
use Rattle.text.specs.Text.{hex_bytes}
use Rattle.text.proofs.TextLaws.{Left, left_first, left_room, left_next, left_none, hex_next, hex_end}
use Rattle.text.proofs.lent.put_hex_bytes.Goals as goal
use Rattle.text.proofs.lent.put_hex_bytes.Goals.{In-loop-byte}

-- The turn's byte, and then the others.
turn : (c : In-loop-byte) → let b = c.args.bytes.now in
    let l = c.loop-byte in
    Left c.args.out.now c.args.at (hex_bytes b) l.out l.end (last_digits 16 2 (get_or b l.byte-index 0) ++ hex_bytes (drop (l.byte-index + 1) b))
turn c = rw (hex_next c.args.bytes.now c.loop-byte.byte-index c.loop-byte-test.true) at c.loop-byte.invariant.1

pub loop-byte-init : goal.loop-byte-init
loop-byte-init c = (omega arith, left_first c.args.out.now c.args.at (hex_bytes c.args.bytes.now) c.requires)

pub put_hex-end-requires-clause-width_in_bounds : goal.put_hex-end-requires-clause-width_in_bounds
put_hex-end-requires-clause-width_in_bounds c =
    let b = c.args.bytes.now in
    let l = c.loop-byte in
    left_room l.out l.end (last_digits 16 2 (get_or b l.byte-index 0)) (hex_bytes (drop (l.byte-index + 1) b)) (turn (goal.at.put_hex-end-requires-clause-width_in_bounds c).In-loop-byte)

pub loop-byte-preserved : goal.loop-byte-preserved
loop-byte-preserved c =
    let b = c.args.bytes.now in
    let l = c.loop-byte in (
      omega arith,
      left_next l.out l.end (last_digits 16 2 (get_or b l.byte-index 0)) (hex_bytes (drop (l.byte-index + 1) b)) _ _ (turn (goal.at.loop-byte-preserved c).In-loop-byte) (rw c.from.ensures at c.put_hex-end.ensures),
    )

pub returns : goal.returns
returns c =
    let l = c.loop-byte in
    left_none l.out l.end (rw (hex_end c.args.bytes.now l.byte-index c.loop-byte-test.false) at l.invariant.1)
