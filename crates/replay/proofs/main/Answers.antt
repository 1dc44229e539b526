-- What is read, and what is written, is a part of its buffer.
use Rattle.std.proofs.Common.{ℕ, sym}
use Rattle.std.proofs.lemmas.List.{length-replicate}
use Rattle.replay.proofs.main.Goals as goal

pub slice_bounds-read_full-end : goal.slice_bounds-read_full-end
slice_bounds-read_full-end c = sym (length-replicate {A = ℕ} _ 0)

pub slice_bounds-input-end : goal.slice_bounds-input-end
slice_bounds-input-end c = c.read_full-count.ensures.0

pub slice_bounds-replay-end : goal.slice_bounds-replay-end
slice_bounds-replay-end c = c.read_full-count.ensures.1
