-- One more pending is one more use: the key read from the written record is the key of the names from which it was written. Assumes nothing.
use Rattle.std.specs.Prelude.{ℕ, ◌+◌, ◌-◌, ◌≤◌, ◌<◌, ◌^◌, Bool, true, false, ◌≡◌, get_or, eqb, None, Some, Option}
use native.Mathlib.Omega.{arith}
use mathlib.Core.List.{List, [], ◌∷◌, ◌++◌, Memᴰ}
use Rattle.std.proofs.Math.Path.{refl, sym, ap, ap₂}
use Rattle.std.proofs.Common.{◌∙◌, subst, eqb-true}
use Rattle.std.proofs.Math.ListN.{length}
use Rattle.std.proofs.lemmas.Bool.{eqb-false}
use Rattle.record.specs.Bytes.{byte_at, le32, part}
use Rattle.record.specs.Records.{next, places, first_bad}
use Rattle.names.specs.Owners.{has_owner, owner_of}
use Rattle.names.proofs.OwnersLaws.{with_owner, without_owner}
use Rattle.name_index.proofs.CountLaws.{count_at_least}
use Rattle.labels.specs.Labels.{labelled}
use Rattle.address_label.proofs.AddressLabelsLaws.{at_constant, at_named}
use Rattle.address_label.specs.LabelBytes.{name_bytes}
use Rattle.address_label.proofs.Written.{label_as_read}
use Rattle.address_label.specs.declared.AddressLabel.{AddressLabel}
use Rattle.address_label.specs.declared.AddressLabel.TheVariants.{Constant, Label}
use Rattle.pending.specs.Pendings.{label_of, pending_ok}
use Rattle.pending.proofs.PendingsLaws.{pending_is}
use Rattle.pending.proofs.Written.{Written}
use Rattle.pending.specs.declared.InstructionLabel.{InstructionLabel}
use Rattle.pending.specs.declared.Origin.{Origin}
use Rattle.pending.specs.declared.Pending.{Pending}
use Rattle.label_uses.specs.Uses.{kept_of, UseKey, Use, key_for, standing_by, insert_use, use_of, uses_from, uses_of}
use Rattle.label_uses.specs.Says.{key_in}
use Rattle.label_uses.proofs.SaysLaws.{says_all}
use Rattle.name_order.proofs.OrderLaws.{never}

-- ---- a label and its name's bytes give the key
abbrev key_by : (labels : List ℕ) → AddressLabel → (name : List ℕ) → Option UseKey
key_by labels (Constant value) name = None
key_by labels (Label l) name = Some (key_for labels l.location.source name)

key_by_lem : (labels s : List ℕ) (x : AddressLabel) → key_in labels s x ≡ key_by labels x (name_bytes s x)
key_by_lem labels s (Constant value) = refl
key_by_lem labels s (Label l) = refl

abbrev use_by : Option UseKey → ℕ → List Use → List Use
use_by None n us = us
use_by (Some key) n us = insert_use key n us

use_by_lem : (labels s : List ℕ) (x : AddressLabel) (n : ℕ) (us : List Use) → use_of labels s x n us ≡ use_by (key_in labels s x) n us
use_by_lem labels s (Constant value) n us = refl
use_by_lem labels s (Label l) n us = refl

read_key : (labels names : List ℕ) (at : ℕ) (x : AddressLabel) (name : List ℕ) → key_by labels (label_as_read names at x) name ≡ key_by labels x name
read_key labels names at (Constant value) name = refl
read_key labels names at (Label l) name = refl

-- ---- the fold: with one more place, and over a list that reads the same
module _ (labels : List ℕ) where
  from_behind : (s : List ℕ) (ps : List ℕ) (at n : ℕ) (us : List Use)
      → uses_from labels s n (ps ++ (at ∷ [])) us ≡ use_of labels s (label_of s at) (n + length ps) (uses_from labels s n ps us)
  unfolding uses_from
  from_behind s [] at n us =
      let z : n ≡ n + 0 = omega arith in
      ap (λ (m : ℕ). use_of labels s (label_of s at) m us) z
  from_behind s (p ∷ ps) at n us =
      let z : n + 1 + length ps ≡ n + length (p ∷ ps) = omega arith in
      from_behind s ps at (n + 1) (use_of labels s (label_of s p) n us)
      ∙ ap (λ (m : ℕ). use_of labels s (label_of s at) m (uses_from labels s (n + 1) ps (use_of labels s (label_of s p) n us))) z

  from_same : (s t : List ℕ) (ps : List ℕ) (n : ℕ) (us : List Use) → ((p : ℕ) → Memᴰ p ps → key_in labels s (label_of s p) ≡ key_in labels t (label_of t p))
      → uses_from labels s n ps us ≡ uses_from labels t n ps us
  unfolding uses_from
  from_same s t [] n us h = refl
  from_same s t (p ∷ ps) n us h =
      let e : use_of labels s (label_of s p) n us ≡ use_of labels t (label_of t p) n us =
      use_by_lem labels s (label_of s p) n us ∙ ap (λ (k : Option UseKey). use_by k n us) (h p (Memᴰ.head refl)) ∙ sym (use_by_lem labels t (label_of t p) n us) in
      ap (uses_from labels s (n + 1) ps) e ∙ from_same s t ps (n + 1) (use_of labels t (label_of t p) n us) (λ q m. h q (Memᴰ.tail m))

  -- the uses of a list with one more pending written behind it
  module _ (regions : ℕ) (old new : List ℕ) (fill : ℕ) (names : List ℕ) (origin : Origin) (waits : InstructionLabel) (w : Written regions old new fill names origin waits) where
    key_kept : (at : ℕ) → Memᴰ at (places old) → key_in labels new (label_of new at) ≡ key_in labels old (label_of old at)
    key_kept at m =
        let o = w.others at m in
        key_by_lem labels new (label_of new at)
        ∙ ap₂ (key_by labels) (ap (λ (p : Pending). p.label) o.0) o.1
        ∙ sym (key_by_lem labels old (label_of old at))

    key_new : key_in labels new (label_of new fill) ≡ key_in labels names waits.label
    key_new =
        key_by_lem labels new (label_of new fill)
        ∙ ap₂ (key_by labels) (ap (λ (p : Pending). p.label) w.reads) w.name
        ∙ read_key labels names (fill + 36) waits.label (name_bytes names waits.label)
        ∙ sym (key_by_lem labels names waits.label)

    pub uses_written : uses_of labels new ≡ use_of labels names waits.label (length (places old)) (uses_of labels old)
    unfolding uses_of
    uses_written =
        ap (λ (ps : List ℕ). uses_from labels new 0 ps []) w.places_are
        ∙ from_behind new (places old) fill 0 []
        ∙ ap₂ (use_of labels new (label_of new fill)) (let z : 0 + length (places old) ≡ length (places old) = omega arith in z) (from_same new old (places old) 0 [] key_kept)
        ∙ use_by_lem labels new (label_of new fill) (length (places old)) (uses_from labels old 0 (places old) [])
        ∙ ap (λ (k : Option UseKey). use_by k (length (places old)) (uses_from labels old 0 (places old) [])) key_new
        ∙ sym (use_by_lem labels names waits.label (length (places old)) (uses_from labels old 0 (places old) []))

-- ---- what is written fits: owners have four bytes, numbers two
abbrev pub AllBytes : List ℕ → Type 0
AllBytes s = (i : ℕ) → get_or s i 0 < 256

word_fits : (s : List ℕ) → AllBytes s → (i : ℕ) → le32 s i < 2 ^ 32
word_fits s b i = omega (arith, b i, b (i + 1), b (i + 2), b (i + 3))

owner_fits : (labels : List ℕ) → AllBytes labels → (p : ℕ) → owner_of 4 labels p < 2 ^ 32
owner_fits labels b p = go (has_owner labels p) refl
  where
    go : (t : Bool) → has_owner labels p ≡ t → owner_of 4 labels p < 2 ^ 32
    go true e = omega (arith, (with_owner 4 labels p e).owner, word_fits labels b (p + 4 + 4))
    go false e = omega (arith, (without_owner 4 labels p e).owner)

pub key_fits : (labels : List ℕ) → AllBytes labels → (source : ℕ) (name : List ℕ) → source < 2 ^ 32 → kept_of (key_for labels source name).standing < 2 ^ 32
unfolding key_for
key_fits labels b source name h = go (labelled labels source name)
  where
    go : (x : Option ℕ) → kept_of (standing_by labels source x) < 2 ^ 32
    go (Some p) = owner_fits labels b p
    go None = h

module _ (labels pending : List ℕ) (lb : AllBytes labels) (pb : AllBytes pending) where
  pub key_in_fits : (at : ℕ) (key : UseKey) → key_in labels pending (label_of pending at) ≡ Some key → kept_of key.standing < 2 ^ 32
  key_in_fits at key e = go (eqb (byte_at pending (at + 19)) 0) refl
    where
      go : (t : Bool) → eqb (byte_at pending (at + 19)) 0 ≡ t → kept_of key.standing < 2 ^ 32
      go true t =
          let r = at_constant pending (at + 19) (next pending at) (eqb-true (byte_at pending (at + 19)) 0 t) in
          let z : key_in labels pending (label_of pending at) ≡ None = ap (key_in labels pending) r in
          never (cc)
      go false t =
          let r = at_named pending (at + 19) (next pending at) (eqb-false (byte_at pending (at + 19)) 0 t) in
          let source = le32 pending (at + 19 + 9) in
          let name = part pending (at + 19 + 17) (next pending at - (at + 19 + 17)) in
          let z : key_in labels pending (label_of pending at) ≡ Some (key_for labels source name) = ap (key_in labels pending) r in
          let k : key ≡ key_for labels source name = cc in
          subst (λ (x : UseKey). kept_of x.standing < 2 ^ 32) (sym k) (key_fits labels lb source name (word_fits pending pb (at + 19 + 9)))

  first_in : (ns : List ℕ) → 0 < length ns → (n : ℕ) × Memᴰ n ns
  first_in [] h = absurd (omega arith)
  first_in (n ∷ ns) h = (n, Memᴰ.head refl)

  pub owners_fit : (u : Use) → Memᴰ u (uses_of labels pending) → kept_of u.key.standing < 2 ^ 32
  owners_fit u m =
      let s = says_all labels pending in
      let f = first_in u.numbers (s.in_order u m).1 in
      key_in_fits (get_or (places pending) f.0 0) u.key (s.sound u m f.0 f.1).1

-- A pending's number in the list fits two bytes.
pub numbers_fit : (labels pending : List ℕ) → first_bad (pending_ok 16 pending) (places pending) ≡ None → length pending ≤ 65536 → (u : Use) → Memᴰ u (uses_of labels pending)
    → (n : ℕ) → Memᴰ n u.numbers → n < 2 ^ 16
numbers_fit labels pending g h u m n k =
    let c = count_at_least 36 pending (pending_ok 16 pending) (λ p e. let i = pending_is 16 pending p e in (i.whole_at, omega (arith, i.least))) g in
    omega (arith, ((says_all labels pending).sound u m n k).0)
