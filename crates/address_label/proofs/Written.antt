-- What is written as a constant or a name passes the test and reads back as what was written (document 01, 'Pending 36'). Assumes nothing.
use Rattle.std.specs.Prelude.{ℕ, ◌+◌, ◌-◌, ◌≤◌, List, ◌++◌, true, ◌≡◌, refl, length}
use Rattle.std.proofs.Common.{arith, ap, ap₂, ◌∙◌, length-append, eq-eqb, le-leb}
use Rattle.std.proofs.Math.Seq.{take-length}
use Rattle.record.specs.Bytes.{byte_at, le32, le64, location_at, part, is_text, all}
use Rattle.record.proofs.BehindLaws.{byte_behind, le32_behind, le64_behind, location_behind, part_behind, digits64, location_digits}
use Rattle.record.specs.declared.Location.{Location}
use Rattle.address_label.specs.AddressLabels.{address_label_ok, address_label_at}
use Rattle.address_label.proofs.AddressLabelsLaws.{ok_constant, ok_named, at_constant, at_named}
use Rattle.address_label.specs.LabelBytes.{name_bytes, label_bytes, LabelFits}
use Rattle.address_label.proofs.LabelBytesLaws.{label_length}
use Rattle.address_label.proofs.WrittenLaws.{both, named}
use Rattle.address_label.specs.declared.AddressLabel.{AddressLabel}
use Rattle.address_label.specs.declared.AddressLabel.TheVariants.{Constant, Label}

pub fits_length : (names : List ℕ) (label : AddressLabel) → LabelFits names label → length (name_bytes names label) ≤ 64
fits_length names (Constant value) h = omega arith
fits_length names (Label name) h = h.most

-- The label as it reads where it was written. If it has a name, the name is at `at`.
abbrev pub label_as_read : (names : List ℕ) → (at : ℕ) → AddressLabel → AddressLabel
label_as_read names at (Constant value) = Constant value
label_as_read names at (Label name) =
    Label (record { name_at = at; name_len = length (name_bytes names (Label name)); location = name.location; offset = name.offset })

-- the label that was written at i, up to the end e
pub record LabelWritten (names s : List ℕ) (i e : ℕ) (label : AddressLabel) : Type 0 where
  pub passes : address_label_ok s i e ≡ true
  pub reads : address_label_at s i e ≡ label_as_read names (i + 17) label
  pub name : name_bytes s (label_as_read names (i + 17) label) ≡ name_bytes names label

pub label_written : (names l : List ℕ) (label : AddressLabel) → LabelFits names label → (i e : ℕ) → i ≡ length l → e ≡ length (l ++ label_bytes names label)
    → LabelWritten names (l ++ label_bytes names label) i e label
label_written names l (Constant value) fits i e at end =
    let r = label_bytes names (Constant value) in
    let s = l ++ r in
    let form : byte_at s i ≡ 0 = byte_behind l r 0 i (omega arith) in
    let ends : e ≡ i + 17 = omega (arith, length-append l r) in
    let source : le32 s (i + 9) ≡ 0 = le32_behind l r 9 (i + 9) (omega arith) in
    let index : le32 s (i + 13) ≡ 0 = le32_behind l r 13 (i + 13) (omega arith) in
    record {
      passes = ok_constant s i e form ∙ both (both (eq-eqb e (i + 17) ends) (eq-eqb (le32 s (i + 9)) 0 source)) (eq-eqb (le32 s (i + 13)) 0 index);
      reads = at_constant s i e form ∙ ap Constant (le64_behind l r 1 (i + 1) (omega arith) ∙ digits64 value fits);
      name = refl;
    }
label_written names l (Label name) fits i e at end =
    let n = name_bytes names (Label name) in
    let r = label_bytes names (Label name) in
    let s = l ++ r in
    let form : byte_at s i ≡ 1 = byte_behind l r 0 i (omega arith) in
    let ends : e ≡ i + 17 + length n = omega (arith, length-append l r, label_length names (Label name)) in
    let len : e - (i + 17) ≡ length n = omega arith in
    let text : part s (i + 17) (length n) ≡ n = part_behind l r 17 (i + 17) (length n) (omega arith) ∙ take-length n in
    let location : location_at s (i + 9) ≡ name.location = location_behind l r 9 (i + 9) (omega arith) ∙ location_digits name.location fits.location_fits in
    let offset : le64 s (i + 1) ≡ name.offset = le64_behind l r 1 (i + 1) (omega arith) ∙ digits64 name.offset fits.offset_fits in
    record {
      passes = ok_named s i e form
          ∙ both (both (le-leb (i + 18) e (omega (arith, fits.least))) (le-leb e (i + 81) (omega (arith, fits.most))))
          (ap (λ (m : ℕ). all is_text (part s (i + 17) m)) len ∙ ap (all is_text) text ∙ fits.text);
      reads = at_named s i e (λ z. omega arith)
          ∙ ap₂ (λ (m : ℕ) (x : Location). named (i + 17) m x (le64 s (i + 1))) len location
          ∙ ap (named (i + 17) (length n) name.location) offset;
      name = text;
    }
