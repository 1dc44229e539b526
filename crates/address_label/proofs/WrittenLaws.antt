-- Lemmas on a label in a list with more behind it. Assumes nothing.
use Rattle.std.specs.Prelude.{ℕ, ◌+◌, ◌-◌, ◌≤◌, Bool, true, false, ◌&&◌, ◌≡◌, refl, length, leb, eqb}
use Rattle.std.proofs.Common.{arith, ap, ◌∙◌}
use mathlib.Core.List.{List, ◌++◌}
use Rattle.std.proofs.Math.Bool.{and-eq-true_iff}
use Rattle.std.proofs.Math.Path.{ap₂}
use Rattle.record.specs.Bytes.{byte_at, le32, le64, location_at, part, is_text, all}
use Rattle.record.proofs.BehindLaws.{byte_before, le32_before, le64_before, location_before, part_before}
use Rattle.record.specs.declared.Location.{Location}
use Rattle.address_label.specs.AddressLabels.{address_label_ok, address_label_at}
use Rattle.address_label.specs.LabelBytes.{name_bytes}
use Rattle.address_label.specs.declared.AddressLabel.{AddressLabel}
use Rattle.address_label.specs.declared.AddressLabel.TheVariants.{Constant, Label}

pub both : {a b : Bool} → a ≡ true → b ≡ true → (a && b) ≡ true
both {a} {b} p q = (and-eq-true_iff a b).1 (p, q)

-- The test, and the label, from the fields that they read.
abbrev test_of : (form source index : ℕ) (name : List ℕ) (i e : ℕ) → Bool
test_of form source index name i e =
    elim (eqb form 0) [
      | true ↦ eqb e (i + 17) && eqb source 0 && eqb index 0
      | false ↦ eqb form 1 && (leb (i + 18) e && leb e (i + 81) && all is_text name)
    ]

abbrev pub named : (at len : ℕ) → Location → (offset : ℕ) → AddressLabel
named at len location offset = Label (record { name_at = at; name_len = len; location = location; offset = offset })

abbrev label_of : (form value : ℕ) → Location → (i e : ℕ) → AddressLabel
label_of form value location i e = elim (eqb form 0) [ true ↦ Constant value | false ↦ named (i + 17) (e - (i + 17)) location value ]

module _ (l r : List ℕ) (i e : ℕ) (long : i + 17 ≤ e) (within : e ≤ length l) where
  form : byte_at (l ++ r) i ≡ byte_at l i
  form = byte_before l r i (omega arith)

  pub label_ok_before : address_label_ok (l ++ r) i e ≡ address_label_ok l i e
  unfolding address_label_ok
  label_ok_before =
      ap₂ (λ (f x : ℕ). test_of f x (le32 (l ++ r) (i + 13)) (part (l ++ r) (i + 17) (e - (i + 17))) i e) form (le32_before l r (i + 9) (omega arith))
      ∙ ap₂ (λ (x : ℕ) (n : List ℕ). test_of (byte_at l i) (le32 l (i + 9)) x n i e) (le32_before l r (i + 13) (omega arith)) (part_before l r (i + 17) (e - (i + 17)) (omega arith))

  pub label_at_before : address_label_at (l ++ r) i e ≡ address_label_at l i e
  label_at_before =
      ap₂ (λ (f v : ℕ). label_of f v (location_at (l ++ r) (i + 9)) i e) form (le64_before l r (i + 1) (omega arith))
      ∙ ap (λ (x : Location). label_of (byte_at l i) (le64 l (i + 1)) x i e) (location_before l r (i + 9) (omega arith))

  pub name_before : name_bytes (l ++ r) (address_label_at l i e) ≡ name_bytes l (address_label_at l i e)
  name_before = pick (eqb (byte_at l i) 0)
    where
      pick : (b : Bool)
          → name_bytes (l ++ r) (elim b [ true ↦ Constant (le64 l (i + 1)) | false ↦ named (i + 17) (e - (i + 17)) (location_at l (i + 9)) (le64 l (i + 1)) ])
          ≡ name_bytes l (elim b [ true ↦ Constant (le64 l (i + 1)) | false ↦ named (i + 17) (e - (i + 17)) (location_at l (i + 9)) (le64 l (i + 1)) ])
      pick true = refl
      pick false = part_before l r (i + 17) (e - (i + 17)) (omega arith)
