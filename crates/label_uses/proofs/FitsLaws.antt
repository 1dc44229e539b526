-- The index is never longer than its pending list. Assumes nothing.
use Rattle.std.specs.Prelude.{ℕ, ◌+◌, ◌≤◌, Bool, true, false, ◌≡◌, refl, length, drop, eqb, None}
use native.Mathlib.Omega.{arith}
use mathlib.Core.List.{List, [], ◌∷◌}
use Rattle.std.proofs.Math.Logic.{⊎_elim}
use Rattle.std.proofs.lemmas.Bool.{false≢true, eqb-false}
use Rattle.std.proofs.Common.{sym, ap, ◌∙◌, length-take, eqb-true}
use Rattle.record.specs.Bytes.{byte_at, part}
use Rattle.record.specs.Records.{next, places_from, first_bad}
use Rattle.record.proofs.RecordsLaws.{places_cons, first_good}
use Rattle.address_label.proofs.AddressLabelsLaws.{at_constant, at_named, name_ends}
use Rattle.address_label.specs.declared.NamedLabel.{NamedLabel}
use Rattle.address_label.specs.declared.AddressLabel.{AddressLabel}
use Rattle.address_label.specs.declared.AddressLabel.TheVariants.{Constant, Label}
use Rattle.pending.specs.Pendings.{label_of, pending_ok, PendingIs}
use Rattle.pending.proofs.PendingsLaws.{pending_is}
use Rattle.label_uses.specs.Uses.{Use, key_for, use_of, uses_from}
use Rattle.label_uses.specs.UseBytes.{uses_bytes}
use Rattle.label_uses.proofs.UseBytesLaws.{insert_length}
use Rattle.name_order.proofs.OrderLaws.{never}

pub key_name : (labels : List ℕ) (source : ℕ) (name : List ℕ) → (key_for labels source name).name ≡ name
unfolding key_for
key_name labels source name = refl

abbrev name_at : AddressLabel → ℕ
name_at (Constant value) = 0
name_at (Label l) = l.name_at

name_place : (pending : List ℕ) (at : ℕ) (l : NamedLabel) → label_of pending at ≡ Label l → l.name_at ≡ at + 36
name_place pending at l e = go (eqb (byte_at pending (at + 19)) 0) refl
  where
    go : (b : Bool) → eqb (byte_at pending (at + 19)) 0 ≡ b → l.name_at ≡ at + 36
    go true t =
        let r = at_constant pending (at + 19) (next pending at) (eqb-true (byte_at pending (at + 19)) 0 t) in
        never (cc)
    go false t =
        let r = at_named pending (at + 19) (next pending at) (eqb-false (byte_at pending (at + 19)) 0 t) in
        let k : l.name_at ≡ at + 19 + 17 = ap name_at (sym e ∙ r) in
        omega arith

module _ (labels pending : List ℕ) where
  -- one pending's use takes no more bytes than the pending
  pub use_fits : (at n : ℕ) (us : List Use) → PendingIs pending at → (x : AddressLabel) → label_of pending at ≡ x → length (uses_bytes us) ≤ at
      → length (uses_bytes (use_of labels pending x n us)) ≤ next pending at
  use_fits at n us p (Constant value) e h = omega arith
  use_fits at n us p (Label l) e h =
      let name = part pending l.name_at l.name_len in
      let key = key_for labels l.location.source name in
      let k : length key.name ≤ l.name_len =
      omega (arith, ap length (key_name labels l.location.source name), length-take l.name_len (drop l.name_at pending)) in
      let b = p.least in
      let j = name_place pending at l e in
      let i = name_ends pending (at + 19) (next pending at) (omega arith) l e in
      omega (arith, (insert_length key n us).most)

  pub fits_from : (at n : ℕ) (ps : List ℕ) (us : List Use) → places_from pending at ≡ ps → at ≤ length pending → first_bad (pending_ok 16 pending) ps ≡ None
      → length (uses_bytes us) ≤ at → length (uses_bytes (uses_from labels pending n ps us)) ≤ length pending
  unfolding uses_from
  fits_from at n [] us e h g k = omega arith
  fits_from at n (q ∷ ps) us e h g k =
      let c = places_cons pending at q ps e in
      let f = first_good (pending_ok 16 pending) q ps g in
      let p = pending_is 16 pending at (ap (pending_ok 16 pending) (sym c.1) ∙ f.0) in
      let u = use_fits at n us p (label_of pending q) (ap (label_of pending) (sym c.1)) k in
      ⊎_elim
      (λ w. fits_from (next pending at) (n + 1) ps (use_of labels pending (label_of pending q) n us) w.1 p.body f.1 u)
      (λ w. absurd (false≢true (sym w.0 ∙ p.whole_at)))
      c.2
