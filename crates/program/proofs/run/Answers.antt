-- What is read is a part of its buffer. The search would otherwise count the buffer's bytes one by one.
use Rattle.std.proofs.Common.{ℕ, sym, arith}
use Rattle.std.proofs.lemmas.List.{length-replicate}
use Rattle.program.proofs.run.Goals as goal

pub slice_bounds-read_full-end : goal.slice_bounds-read_full-end
slice_bounds-read_full-end g c = sym (length-replicate {A = ℕ} _ 0)

pub slice_bounds-input-end : goal.slice_bounds-input-end
slice_bounds-input-end g c = c.read_full-count.ensures.0

pub slice_bounds-put-end : goal.slice_bounds-put-end
slice_bounds-put-end g c = c.read_full-count.ensures.1

pub new-requires : goal.new-requires
new-requires g c = omega (arith, g.met.P.TextProgram.fits)

pub put-requires : goal.put-requires
put-requires g c = omega (arith, g.met.P.TextProgram.fits)
