use Rattle.std.proofs.Common.{◌∙◌}
use Rattle.names.proofs.StraightLaws.{straight_all}
use Rattle.descriptors.proofs.DescriptorsLaws.{descriptors_shared}
use Rattle.descriptors.proofs.Descriptors.find.Goals as goal

pub returns : goal.returns
returns c =
    (rw c.named.ensures.value at c.find.ensures) ∙ straight_all 8 _ (descriptors_shared _ c.named.ensures.layout) c.args.name.now
