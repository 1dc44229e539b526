-- The index with the use of a label, where owners and sources have four bytes. This is what `add_label` gives a line. Assumes nothing.
use Rattle.std.specs.Prelude.{ℕ, List, ◌≡◌, length}
use Rattle.record.specs.Stores.{append}
use Rattle.address_label.specs.declared.AddressLabel.{AddressLabel}
use Rattle.label_uses.specs.Uses.{Use, use_of}
use Rattle.label_uses.specs.UseBytes.{uses_bytes}
use Rattle.use_adding.specs.Adding.{IndexIn}
use Rattle.use_adding.specs.Making.{AddsOneTo, KeepsOwners}
use Rattle.line_uses.specs.LineIndex.{OwnersFit}

-- the index with the use of a label, if it is a name
pub record AddsLabel (labels names d e : List ℕ) (x : AddressLabel) (n fill : ℕ) (us : List Use) : Type 0 where
  pub bytes : e ≡ append d 0 (uses_bytes (use_of labels names x n us))
  pub filled : fill ≡ length (uses_bytes (use_of labels names x n us))
  pub owners : OwnersFit (use_of labels names x n us)

abbrev pub AddsLabelTo : (labels names d e : List ℕ) (fill : ℕ) (x : AddressLabel) (n after : ℕ) → Type 0
AddsLabelTo labels names d e fill x n after = (us : List Use) → IndexIn d fill us → AddsLabel labels names d e x n after us

-- the two clauses of `add_label` say it together
pub adds_label : (labels names d e : List ℕ) (fill : ℕ) (x : AddressLabel) (n after : ℕ) → AddsOneTo d e labels names fill x n after → KeepsOwners labels names x n
    → AddsLabelTo labels names d e fill x n after
adds_label labels names d e fill x n after a k us i = let b = a us i in record { bytes = b.bytes; filled = b.filled; owners = k us i.owners }
