-- What decides the check of one number: the pending's name and source, and what these stand for. Assumes nothing.
use Rattle.std.specs.Prelude.{ℕ, ◌≤◌, ◌<◌, List, Bool, true, false, ◌≡◌, refl, length, get_or, None, Option, Some}
use Rattle.std.proofs.Common.{arith, sym, ap, ◌∙◌, subst}
use Rattle.record.specs.Bytes.{le16, part, same_bytes}
use Rattle.record.proofs.BytesLaws.{same_eq, eq_same}
use Rattle.record.specs.Records.{places}
use Rattle.address_label.specs.LabelBytes.{name_bytes}
use Rattle.address_label.specs.declared.NamedLabel.{NamedLabel}
use Rattle.address_label.specs.declared.AddressLabel.{AddressLabel}
use Rattle.address_label.specs.declared.AddressLabel.TheVariants.{Constant, Label}
use Rattle.pending.specs.Pendings.{label_of}
use Rattle.label_uses.specs.Uses.{UseKey, use_order, key_for}
use Rattle.label_uses.proofs.UseOrderLaws.{use_same, use_is}
use Rattle.label_uses.proofs.FitsLaws.{key_name}
use Rattle.label_uses.specs.Says.{key_in, key_at}
use Rattle.index_check.specs.Checks.{Tells, source_in, StandsFrom}
use Rattle.index_check.proofs.NumbersLaws.{OneRight}
use Rattle.std.specs.declared.cmp.Ordering.TheVariants.{Less, Equal, Greater}
use Rattle.std.specs.declared.cmp.Ordering.{Ordering}
use Rattle.std.specs.Ordering.{is_eq}
use Rattle.name_order.proofs.OrderLaws.{never}

-- ---- what a test says
pub told : (P : Type 0) (b : Bool) → b ≡ true → Tells b P → P
told P true e h = h
told P false e h = never (cc)

pub untold : (P : Type 0) (b : Bool) → b ≡ false → Tells b P → P → ⊥
untold P true e h = never (cc)
untold P false e h = h

pub tells_as : (P Q : Type 0) (b : Bool) → (P → Q) → (Q → P) → Tells b P → Tells b Q
tells_as P Q true f g h = f h
tells_as P Q false f g h = λ q. h (g q)

-- ---- keys, by their order
pub key_tells : (a b : UseKey) (same : Bool) → same ≡ is_eq (use_order a b) → Tells same (b ≡ a)
key_tells a b same e = go (use_order a b) refl
  where
    go : (o : Ordering) → use_order a b ≡ o → Tells same (b ≡ a)
    go Equal o = let f : same ≡ true = e ∙ ap is_eq o in subst (λ (t : Bool). Tells t (b ≡ a)) (sym f) (sym (use_is a b o))
    go Less o = let f : same ≡ false = e ∙ ap is_eq o in subst (λ (t : Bool). Tells t (b ≡ a)) (sym f) (λ (q : b ≡ a). let z : use_order a b ≡ Equal = ap (use_order a) q ∙ use_same a in never (cc))
    go Greater o = let f : same ≡ false = e ∙ ap is_eq o in subst (λ (t : Bool). Tells t (b ≡ a)) (sym f) (λ (q : b ≡ a). let z : use_order a b ≡ Equal = ap (use_order a) q ∙ use_same a in never (cc))

-- ---- the source of a label's name
abbrev source_by : NamedLabel → Bool → Option ℕ
source_by l b = elim b [ true ↦ Some l.location.source | false ↦ None ]

pub source_same : (pending name : List ℕ) (x : AddressLabel) (l : NamedLabel) → x ≡ Label l → (bytes : List ℕ) (same b : Bool) → bytes ≡ name_bytes pending x → same ≡ same_bytes bytes name → same ≡ b
    → source_by l b ≡ source_in pending name x
source_same pending name x l e bytes same b n s t =
    let z : same_bytes (part pending l.name_at l.name_len) name ≡ b = ap (λ (y : List ℕ). same_bytes y name) (sym (n ∙ ap (name_bytes pending) e)) ∙ sym s ∙ t in
    sym (ap (source_in pending name) e ∙ ap (source_by l) z)

-- ---- the key of a label, by its name and source
module _ (labels pending name : List ℕ) where
  pub source_key : (x : AddressLabel) (source : ℕ) → source_in pending name x ≡ Some source → key_in labels pending x ≡ Some (key_for labels source name)
  source_key (Constant value) source e = never (cc)
  source_key (Label l) source e = go (same_bytes (part pending l.name_at l.name_len) name) refl e
    where
      go : (b : Bool) → same_bytes (part pending l.name_at l.name_len) name ≡ b → ◌≡◌ {A = (Option ℕ)} (elim b [ true ↦ Some l.location.source | false ↦ None ]) (Some source)
          → key_in labels pending (Label l) ≡ Some (key_for labels source name)
      go true b f =
          let k : l.location.source ≡ source = cc in
          ap (λ (n : List ℕ). Some (key_for labels l.location.source n)) (same_eq (part pending l.name_at l.name_len) name b)
          ∙ ap (λ (m : ℕ). Some (key_for labels m name)) k
      go false b f = never (cc)

  pub other_key : (x : AddressLabel) (key : UseKey) → key.name ≡ name → source_in pending name x ≡ None → key_in labels pending x ≡ Some key → ⊥
  other_key (Constant value) key i e k = never (cc)
  other_key (Label l) key i e k = go (same_bytes (part pending l.name_at l.name_len) name) refl e
    where
      go : (b : Bool) → same_bytes (part pending l.name_at l.name_len) name ≡ b → ◌≡◌ {A = (Option ℕ)} (elim b [ true ↦ Some l.location.source | false ↦ None ]) None → ⊥
      go true b f = never (cc)
      go false b f =
          let bytes = part pending l.name_at l.name_len in
          let q : key_for labels l.location.source bytes ≡ key = cc in
          let n : bytes ≡ name = sym (key_name labels l.location.source bytes) ∙ ap (λ (u : UseKey). u.name) q ∙ i in
          let z : same_bytes bytes name ≡ true = ap (λ (m : List ℕ). same_bytes m name) n ∙ eq_same name in
          never (cc)

-- ---- one number of a record: n is its value, p the place of the pending
module _ (labels pending ps : List ℕ) (are : ps ≡ places pending) (s : List ℕ) (i least n p : ℕ) (value : n ≡ le16 s i) (place : p ≡ get_or ps n 0) (key : UseKey) where
  key_here : key_at labels pending (le16 s i) ≡ key_in labels pending (label_of pending p)
  key_here =
      ap (λ (q : ℕ). key_in labels pending (label_of pending q))
      (ap (λ (m : ℕ). get_or (places pending) m 0) (sym value) ∙ ap (λ (l : List ℕ). get_or l n 0) (sym are) ∙ sym place)

  pub not_above : (n < least) → OneRight labels pending key s i least → ⊥
  not_above h o = absurd (omega (arith, o.above))

  pub not_below : (length ps ≤ n) → OneRight labels pending key s i least → ⊥
  not_below h o = absurd (omega (arith, o.below, ap length are))

  pub not_named : source_in pending key.name (label_of pending p) ≡ None → OneRight labels pending key s i least → ⊥
  not_named e o = other_key labels pending key.name (label_of pending p) key refl e (sym key_here ∙ o.named)

  pub not_standing : (source : ℕ) → source_in pending key.name (label_of pending p) ≡ Some source → (key_for labels source key.name ≡ key → ⊥)
      → OneRight labels pending key s i least → ⊥
  not_standing source e h o = let k = sym (source_key labels pending key.name (label_of pending p) source e) ∙ sym key_here ∙ o.named in h (cc)

  pub right_one : (source : ℕ) → least ≤ n → n < length ps → source_in pending key.name (label_of pending p) ≡ Some source → key_for labels source key.name ≡ key
      → OneRight labels pending key s i least
  right_one source h k e f = record {
    above = omega arith;
    below = omega (arith, ap length are);
    named = key_here ∙ source_key labels pending key.name (label_of pending p) source e ∙ ap Some f;
  }

-- ---- the source that was looked up last
pub still_true : (labels : List ℕ) (some : Bool) (last source : ℕ) (name : List ℕ) (key : UseKey) → StandsFrom some (key_for labels last name) key → some ≡ true → last ≡ source → key_for labels source name ≡ key
still_true labels true last source name key h e f = ap (λ (m : ℕ). key_for labels m name) (sym f) ∙ h
still_true labels false last source name key h e f = never (cc)
