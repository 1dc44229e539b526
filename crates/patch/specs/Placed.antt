-- A patch's destination from the place of its label, so that the label is looked up only once (document 02, P13). Assumes nothing.
use Rattle.std.specs.Prelude.{ℕ, ◌+◌, true, false, List, ◌==◌, ◌≤◌, length, ◌≢◌, None, Option, Some}
use Rattle.record.specs.Bytes.{le32, part}
use Rattle.labels.specs.Labels.{labelled}
use Rattle.address_label.specs.declared.AddressLabel.{AddressLabel}
use Rattle.address_label.specs.declared.AddressLabel.TheVariants.{Constant, Label}
use Rattle.patch.specs.Patches.{given_destination}

-- stands for no label: in a list of 65,536 bytes no whole record begins there
abbrev pub no_place : ℕ
no_place = 0xFFFF

abbrev pub place_of : Option ℕ → ℕ
place_of (Some p) = p
place_of None = no_place

-- the place of the label that a name in the list s resolves to
unfoldable pub label_place : (labels s : List ℕ) → AddressLabel → ℕ
label_place labels s (Constant value) = no_place
label_place labels s (Label name) = place_of (labelled labels name.location.source (part s name.name_at name.name_len))

abbrev pub address_at : List ℕ → ℕ → Option ℕ
address_at labels place = elim (place == no_place) [ true ↦ None | false ↦ Some (le32 labels (place + 4)) ]

unfoldable pub placed_destination : List ℕ → AddressLabel → (place : ℕ) → Option ℕ
placed_destination labels label place = given_destination label (address_at labels place)

-- the place is `no_place`, or a label of at least nine bytes fits there
abbrev pub Placed : List ℕ → ℕ → Type 0
Placed labels place = (place ≢ no_place) → place + 9 ≤ length labels
