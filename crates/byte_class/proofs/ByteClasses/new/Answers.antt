use Rattle.std.proofs.Common.{refl}
use Rattle.byte_class.specs.Letters.{letters}
use Rattle.byte_class.proofs.ByteClasses.new.Goals as goal

-- Entry for entry, the table holds the letters of the classes. antt computes this.
pub invariant_of-result : goal.invariant_of-result
unfolding letters
invariant_of-result c = record { of_bytes = refl }
