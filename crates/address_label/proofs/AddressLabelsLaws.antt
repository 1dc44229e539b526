-- For each form byte: what the test of a constant or a name asks, and what is read there. Assumes nothing.
use Rattle.std.specs.Prelude.{ℕ, ◌+◌, ◌-◌, ◌≤◌, eqb, List, Bool, true, false, ◌≡◌, refl}
use Rattle.std.proofs.Common.{arith}
use Rattle.address_label.specs.declared.NamedLabel.{NamedLabel}
use borrow.Author.Tests.{eq-eqb, ne_eqb, eqb-true, eqb-false}
use Rattle.record.specs.Bytes.{byte_at, le64, location_at}
use Rattle.address_label.specs.AddressLabels.{address_label_ok, address_label_at, constant_ok, named_ok}
use Rattle.address_label.specs.declared.AddressLabel.TheVariants.{Constant, Label}

module _ (s : List ℕ) (i e : ℕ) where
  pub ok_constant : byte_at s i ≡ 0 → address_label_ok s i e ≡ constant_ok s i e
  unfolding address_label_ok
  ok_constant h = rw (h, address_label_ok)

  pub ok_named : byte_at s i ≡ 1 → address_label_ok s i e ≡ named_ok s i e
  unfolding address_label_ok
  ok_named h = simp (h, address_label_ok)

  pub ok_neither : (byte_at s i ≡ 0 → ⊥) → (byte_at s i ≡ 1 → ⊥) → address_label_ok s i e ≡ false
  unfolding address_label_ok
  ok_neither h k = rw (ne_eqb (byte_at s i) 0 h, ne_eqb (byte_at s i) 1 k, address_label_ok)

  pub at_constant : byte_at s i ≡ 0 → address_label_at s i e ≡ Constant (le64 s (i + 1))
  at_constant h = rw (eq-eqb (byte_at s i) 0 h, address_label_at)

  pub at_named : (byte_at s i ≡ 0 → ⊥)
      → address_label_at s i e ≡ Label (record { name_at = i + 17; name_len = e - (i + 17); location = location_at s (i + 9); offset = le64 s (i + 1) })
  at_named h = rw (ne_eqb (byte_at s i) 0 h, address_label_at)

  -- a name ends where its record does
  pub name_ends : i + 17 ≤ e → (l : NamedLabel) → address_label_at s i e ≡ Label l → l.name_at + l.name_len ≡ e
  name_ends h l q = go (eqb (byte_at s i) 0) refl
    where
      go : (b : Bool) → eqb (byte_at s i) 0 ≡ b → l.name_at + l.name_len ≡ e
      go true t =
          let r = at_constant (eqb-true (byte_at s i) 0 t) in
          let z : ◌≡◌ {A = ℕ} 0 1 = cc in
          absurd (omega arith)
      go false t =
          let n : NamedLabel = record { name_at = i + 17; name_len = e - (i + 17); location = location_at s (i + 9); offset = le64 s (i + 1) } in
          let r : address_label_at s i e ≡ Label n = at_named (eqb-false (byte_at s i) 0 t) in
          let k : l ≡ n = cc in
          rw k (omega arith)
