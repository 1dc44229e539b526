use Rattle.input.proofs.InputLaws.{held_part}
use Rattle.input.proofs.hold_in.Goals as goal

pub returns : goal.returns
returns c = held_part c.args.space.now c.args.list.now c.hold-count.new.space c.hold-count.result c.hold-count.ensures.value c.hold-count.ensures.space_after
