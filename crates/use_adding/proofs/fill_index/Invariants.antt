use Rattle.record.specs.Left.{places_left}
use Rattle.use_adding.proofs.MakingLaws.{MakingLeft}
use Rattle.use_adding.proofs.fill_index.Given as goal

abbrev pub invariant-loop-n : goal.invariant-loop-n
invariant-loop-n l = MakingLeft l.fn.d l.labels l.list l.d l.n-iterator.count l.fill (places_left l.n-iterator.iter)
