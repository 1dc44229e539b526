-- The use of one more pending added to an index that a buffer holds, and an index made afresh. Assumes nothing.
use Rattle.std.specs.Prelude.{ℕ, ◌≤◌, ◌<◌, ◌^◌, ◌≡◌, length}
use mathlib.Core.List.{List, Memᴰ}
use Rattle.record.specs.Stores.{append}
use Rattle.address_label.specs.declared.AddressLabel.{AddressLabel}
use Rattle.label_uses.specs.Uses.{kept_of, Use, use_of}
use Rattle.label_uses.specs.UseBytes.{uses_bytes, index_of}
use Rattle.use_adding.specs.Adding.{IndexIn}

-- buffer e and its fill count hold the index with one more pending's use, if it has one
pub record AddsOne (d e labels pending : List ℕ) (x : AddressLabel) (n after : ℕ) (us : List Use) : Type 0 where
  pub bytes : e ≡ append d 0 (uses_bytes (use_of labels pending x n us))
  pub filled : after ≡ length (uses_bytes (use_of labels pending x n us))

abbrev pub AddsOneTo : (d e labels pending : List ℕ) (fill : ℕ) (x : AddressLabel) (n after : ℕ) → Type 0
AddsOneTo d e labels pending fill x n after = (us : List Use) → IndexIn d fill us → AddsOne d e labels pending x n after us

-- if owners and sources fit four bytes, they still do with the pending's use added
abbrev pub KeepsOwners : (labels pending : List ℕ) (x : AddressLabel) (n : ℕ) → Type 0
KeepsOwners labels pending x n =
    (us : List Use) → ((u : Use) → Memᴰ u us → kept_of u.key.standing < 2 ^ 32) → (u : Use) → Memᴰ u (use_of labels pending x n us) → kept_of u.key.standing < 2 ^ 32

pub record RoomForOne (d labels pending : List ℕ) (fill : ℕ) (x : AddressLabel) (n : ℕ) : Type 0 where
  pub us : List Use
  pub index_in : IndexIn d fill us
  pub room : length (uses_bytes (use_of labels pending x n us)) ≤ length d

-- the index of a pending list, at the start of a buffer
pub record Made (d e labels pending : List ℕ) (fill : ℕ) : Type 0 where
  pub bytes : e ≡ append d 0 (index_of labels pending)
  pub filled : fill ≡ length (index_of labels pending)
