use Rattle.std.proofs.Common.{◌≡◌, ◌+◌, ◌*◌, ◌<◌, ◌++◌, length}
use Rattle.std.specs.Slice.Iter.{chunks_rest, chunks_size}
use Rattle.image_text.specs.Image.{data_lines}
use Rattle.image_text.proofs.put_data.Given as goal

-- behind the text so far stand the lines of the bytes that are left
abbrev pub invariant-loop-i : goal.invariant-loop-i
invariant-loop-i g l =
    let rest = chunks_rest l.i-iterator.iter in
    let at = 4 * l.i-iterator.count in
    record {
      four : chunks_size l.i-iterator.iter ≡ 4;
      counted : 0 < length rest → at + length rest ≡ length l.«data»;
      left : l.out ++ data_lines l.address at rest ≡ l.initial.out ++ data_lines l.address 0 l.«data»;
    }
