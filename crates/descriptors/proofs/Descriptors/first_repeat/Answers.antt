use Rattle.std.proofs.Common.{sym, ◌∙◌}
use Rattle.names.proofs.StraightLaws.{straight_repeat}
use Rattle.name_index.proofs.RiseLaws.{rise_none}
use Rattle.descriptors.proofs.DescriptorsLaws.{descriptors_shared}
use Rattle.descriptors.proofs.Descriptors.first_repeat.Goals as goal

pub returns-then-rises : goal.returns-then-rises
returns-then-rises c =
    let s = c.args.self.now in
    let r = sym (rw c.named.ensures.value at c.rises.ensures) ∙ c.if-rises.true in
    sym (rise_none 8 s r) ∙ straight_repeat 8 s (descriptors_shared s c.named.ensures.layout)
