use Rattle.std.proofs.Common.{◌∙◌, arith}
use Rattle.names.proofs.StraightLaws.{straight_repeat}
use Rattle.descriptors.proofs.DescriptorsLaws.{descriptors_few, descriptors_shared}
use Rattle.descriptors.proofs.Descriptors.repeat_by_index.Goals as goal

pub make-requires : goal.make-requires
make-requires c =
    let n = descriptors_few c.args.self.now c.named.ensures.layout in
    (omega arith, (omega arith, rw c.named.ensures.value (n.0, (n.1, n.1))))

pub returns : goal.returns
returns c =
    (rw (c.make.ensures.0, c.named.ensures.value) at c.first_repeat.ensures) ∙ straight_repeat 8 _ (descriptors_shared _ c.named.ensures.layout)
