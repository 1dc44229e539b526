use Rattle.std.proofs.Common.{◌≡◌, length}
use Rattle.name_order.specs.Order.{order}
use Rattle.name_order.proofs.compare.Given as goal

-- The names compare as their remaining parts do.
abbrev pub invariant-loop-x : goal.invariant-loop-x
invariant-loop-x l = order l.fn.a l.fn.b ≡ order l.a l.b

abbrev pub decreases-loop-x : goal.decreases-loop-x
decreases-loop-x l = length l.a
