-- A constant or a name with an offset as bytes, the reverse of AddressLabels (document 01, 'Pending 36'). Assumes nothing.
use Rattle.std.specs.Prelude.{ℕ, ◌^◌, ◌≤◌, ◌<◌, List, [], ◌∷◌, ◌++◌, true, ◌≡◌, length}
use Rattle.record.specs.Bytes.{part, is_text, all}
use Rattle.record.specs.Stores.{le64_bytes, location_bytes, LocationFits}
use Rattle.address_label.specs.declared.NamedLabel.{NamedLabel}
use Rattle.address_label.specs.declared.AddressLabel.{AddressLabel}
use Rattle.address_label.specs.declared.AddressLabel.TheVariants.{Constant, Label}

-- a label's name, as a part of the list it was read from; a constant has none
abbrev pub name_bytes : (names : List ℕ) → AddressLabel → List ℕ
name_bytes names (Constant value) = []
name_bytes names (Label name) = part names name.name_at name.name_len

-- form, value or added offset (8), the name's location, name: "Form 0 has zero location and no name."
abbrev pub label_bytes : (names : List ℕ) → AddressLabel → List ℕ
label_bytes names (Constant value) = 0 ∷ le64_bytes value ++ le64_bytes 0
label_bytes names (Label name) = 1 ∷ le64_bytes name.offset ++ location_bytes name.location ++ name_bytes names (Label name)

-- what can be written: "value or added offset (8), the name's location, name of 1 to 64 bytes"
pub record NameFits (names : List ℕ) (name : NamedLabel) : Type 0 where
  pub offset_fits : name.offset < 2 ^ 64
  pub location_fits : LocationFits name.location
  pub least : 1 ≤ length (name_bytes names (Label name))
  pub most : length (name_bytes names (Label name)) ≤ 64
  pub text : all is_text (name_bytes names (Label name)) ≡ true

abbrev pub LabelFits : (names : List ℕ) → AddressLabel → Type 0
LabelFits names (Constant value) = value < 2 ^ 64
LabelFits names (Label name) = NameFits names name
