-- The destination found through its label's place is the destination. Assumes nothing.
use Rattle.std.specs.Prelude.{◌≡◌, ℕ, ◌+◌, ◌≤◌, List, length, ◌≢◌, None, Option, Some}
use Rattle.std.proofs.Common.{arith, sym, ◌∙◌, ne_eqb}
use Rattle.std.proofs.Math.Path.{refl, ap}
use Rattle.field.specs.Wrap.{wrap32}
use Rattle.record.specs.Bytes.{le32, part}
use Rattle.labels.specs.Labels.{label_layout, labelled, resolve, table_of}
use Rattle.labels.proofs.LabelsLaws.{labels_within, found_label, resolve_is}
use Rattle.address_label.specs.declared.AddressLabel.{AddressLabel}
use Rattle.address_label.specs.declared.AddressLabel.TheVariants.{Constant, Label}
use Rattle.address_label.specs.declared.NamedLabel.{NamedLabel}
use Rattle.patch.specs.Patches.{plus_offset, destination}
use Rattle.patch.proofs.PatchesLaws.{wrapped_offset}
use Rattle.patch.specs.Placed.{no_place, place_of, label_place, address_at, placed_destination, Placed}

pub address_there : (labels : List ℕ) (place : ℕ) → (place ≢ no_place) → address_at labels place ≡ Some (le32 labels (place + 4))
address_there labels place n = rw (ne_eqb place no_place n, address_at)

-- an offset's low 32 bits are enough
pub placed_label : (labels : List ℕ) (name : NamedLabel) (place : ℕ) → placed_destination labels (Label name) place ≡ plus_offset (address_at labels place) (wrap32 name.offset)
unfolding placed_destination
placed_label labels name place = sym (wrapped_offset (address_at labels place) name.offset)

module _ (labels s : List ℕ) (good : label_layout labels ≡ None) where
  pub found_within : (source : ℕ) (name : List ℕ) (p : ℕ) → labelled labels source name ≡ Some p → p + 9 ≤ length labels
  found_within source name p e = let l = found_label labels source name p good e in omega arith

  pub label_placed : (label : AddressLabel) → Placed labels (label_place labels s label)
  unfolding label_place
  label_placed (Constant value) = λ n. absurd (n refl)
  label_placed (Label name) = go (labelled labels name.location.source (part s name.name_at name.name_len)) refl
    where
      go : (x : Option ℕ) → labelled labels name.location.source (part s name.name_at name.name_len) ≡ x → Placed labels (place_of x)
      go (Some p) e n = found_within _ _ p e
      go None e n = absurd (n refl)

  -- The address read at the place is the one that the name resolves to.
  address_at_lem : (source : ℕ) (name : List ℕ) (x : Option ℕ) → labelled labels source name ≡ x → address_at labels (place_of x) ≡ resolve labels source name
  address_at_lem source name (Some p) e =
      let w = found_within source name p e in
      let l = labels_within labels good in
      address_there labels p (λ z. omega arith) ∙ sym (resolve_is labels source name (Some p) (sym e))
  address_at_lem source name None e = sym (resolve_is labels source name None (sym e))

  pub placed_is : (label : AddressLabel) → placed_destination labels label (label_place labels s label) ≡ destination (table_of labels) s label
  unfolding label_place placed_destination destination
  placed_is (Constant value) = refl
  placed_is (Label name) = ap (λ (a : _). plus_offset a name.offset) (address_at_lem name.location.source (part s name.name_at name.name_len) _ refl)
