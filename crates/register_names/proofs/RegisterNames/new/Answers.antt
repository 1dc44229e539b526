use Rattle.std.proofs.Common.{refl}
use Rattle.register_names.specs.RegisterNames.{names}
use Rattle.register_names.specs.Padded.{padded_names}
use Rattle.register_names.proofs.RegisterNames.new.Goals as goal

-- The table is the list of padded names; antt computes it.
pub invariant_of-result : goal.invariant_of-result
unfolding padded_names names
invariant_of-result c = record { of_names = refl }
