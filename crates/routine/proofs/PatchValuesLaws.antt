-- A pending and its value as a patch have the same destination. Assumes nothing.
use Rattle.std.specs.Prelude.{ℕ, ◌≡◌, refl, List}
use Rattle.labels.specs.Labels.{Table}
use Rattle.address_label.specs.LabelBytes.{name_bytes}
use Rattle.address_label.specs.declared.AddressLabel.{AddressLabel}
use Rattle.address_label.specs.declared.AddressLabel.TheVariants.{Constant, Label}
use Rattle.patch.specs.Patches.{destination}
use Rattle.routine.specs.PatchValues.{target_of, target_address}

pub destination_is : (labels : Table) (s : List ℕ) (label : AddressLabel) → destination labels s label ≡ target_address labels (target_of label (name_bytes s label))
unfolding destination
destination_is labels s (Constant value) = refl
destination_is labels s (Label name) = refl
