use Rattle.std.proofs.Common.{◌≡◌, ◌+◌, ◌*◌, ◌<◌, length}
use Rattle.std.specs.Slice.Iter.{chunks_rest, chunks_size}
use Rattle.text.proofs.TextLaws.{Left}
use Rattle.page_outcome.specs.Page.{label_at}
use Rattle.page_core.specs.Texts.{data_text}
use Rattle.page_core.proofs.put_data.Given as goal

-- behind the text so far stand the lines of the bytes that are left
abbrev pub invariant-loop-i : goal.invariant-loop-i
invariant-loop-i l =
    let rest = chunks_rest l.i-iterator.iter in
    let label = label_at l.labels in
    let i = l.i-iterator.count in
    record {
      four : chunks_size l.i-iterator.iter ≡ 4;
      counted : 0 < length rest → 4 * i + length rest ≡ length l.«data»;
      left : Left l.initial.out l.at (data_text label l.address 0 l.«data») l.out l.end (data_text label l.address (4 * i) rest);
    }
