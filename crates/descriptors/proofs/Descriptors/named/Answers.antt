use Rattle.std.proofs.Common.{arith}
use Rattle.descriptors.proofs.DescriptorsLaws.{descriptors_named}
use Rattle.descriptors.proofs.Descriptors.named.Goals as goal

pub new-requires : goal.new-requires
new-requires c = (omega arith, descriptors_named _ c.self.invariant)
