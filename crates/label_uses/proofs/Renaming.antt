-- "A cutter renaming a seam label wants every place that uses it": a pending is listed under a label exactly if its name resolves to that label.
-- Assumes nothing.
use Rattle.std.specs.Prelude.{ℕ, ◌<◌, ◌≡◌, refl, length, get_or, None, Option, Some}
use mathlib.Core.List.{List, Memᴰ}
use Rattle.std.proofs.Common.{sym, ap, ◌∙◌}
use Rattle.record.specs.Bytes.{part}
use Rattle.record.specs.Records.{places}
use Rattle.names.specs.Owners.{owner_of}
use Rattle.labels.specs.Labels.{labelled}
use Rattle.address_label.specs.declared.AddressLabel.{AddressLabel}
use Rattle.address_label.specs.declared.AddressLabel.TheVariants.{Constant, Label}
use Rattle.address_label.specs.declared.NamedLabel.{NamedLabel}
use Rattle.pending.specs.Pendings.{label_of}
use Rattle.label_uses.specs.declared.Standing.{Standing}
use Rattle.label_uses.specs.declared.Standing.TheVariants.{Known}
use Rattle.label_uses.specs.Uses.{UseKey, Use, kept_of, standing_by, key_for, uses_of}
use Rattle.label_uses.specs.Says.{key_in, key_at}
use Rattle.label_uses.proofs.IndexSays.{index_says}
use Rattle.name_order.proofs.OrderLaws.{never}

-- the key of a label: "the owner (0xFFFFFFFF for all)"
abbrev pub label_standing : ℕ → Standing
label_standing owner = Known owner

abbrev pub label_key : (name : List ℕ) (owner : ℕ) → UseKey
label_key name owner = record { name = name; standing = label_standing owner }

-- the index lists pending n under the label
abbrev pub Listed : (labels pending : List ℕ) (n : ℕ) (name : List ℕ) (owner : ℕ) → Type 0
Listed labels pending n name owner = (u : Use) × Memᴰ u (uses_of labels pending) × (u.key ≡ label_key name owner) × Memᴰ n u.numbers

-- pending n has the name, and "a name resolves first to the label whose owner equals the source in the name's location, then to the one for all"
pub record Resolves (labels pending : List ℕ) (n : ℕ) (name : List ℕ) (owner : ℕ) : Type 0 where
  pub counted : n < length (places pending)
  pub label : NamedLabel
  pub waits_for : label_of pending (get_or (places pending) n 0) ≡ Label label
  pub name_is : part pending label.name_at label.name_len ≡ name
  pub place : ℕ
  pub resolved : labelled labels label.location.source name ≡ Some place
  pub owner_is : owner_of 4 labels place ≡ owner

standing_known : (labels : List ℕ) (source owner : ℕ) (x : Option ℕ) → standing_by labels source x ≡ label_standing owner → (p : ℕ) × (x ≡ Some p) × (owner_of 4 labels p ≡ owner)
standing_known labels source owner (Some p) e = (p, refl, ap kept_of e)
standing_known labels source owner None e = never (cc)

key_known : (labels : List ℕ) (source owner : ℕ) (other name : List ℕ) → key_for labels source other ≡ label_key name owner
    → (other ≡ name) × (p : ℕ) × (labelled labels source other ≡ Some p) × (owner_of 4 labels p ≡ owner)
unfolding key_for
key_known labels source owner other name e =
    let s = standing_known labels source owner (labelled labels source other) (ap (λ (k : UseKey). k.standing) e) in
    (ap (λ (k : UseKey). k.name) e, s.0, s.1, s.2)

known_key : (labels : List ℕ) (source owner : ℕ) (name : List ℕ) (p : ℕ) → labelled labels source name ≡ Some p → owner_of 4 labels p ≡ owner → key_for labels source name ≡ label_key name owner
unfolding key_for
known_key labels source owner name p e f =
    ap (λ (x : Option ℕ). record { name = name; standing = standing_by labels source x }) e ∙ ap (label_key name) f

module _ (labels pending : List ℕ) (n : ℕ) (name : List ℕ) (owner : ℕ) where
  pub listed_resolves : Listed labels pending n name owner → Resolves labels pending n name owner
  listed_resolves (u, m, e, k) =
      let r = (index_says labels pending).right u m n k in
      go (label_of pending (get_or (places pending) n 0)) refl r.0 (r.1 ∙ ap Some e)
    where
      go : (x : AddressLabel) → label_of pending (get_or (places pending) n 0) ≡ x → n < length (places pending) → key_in labels pending (label_of pending (get_or (places pending) n 0)) ≡ Some (label_key name owner)
          → Resolves labels pending n name owner
      go (Constant value) w h f = let z = sym (ap (key_in labels pending) w) ∙ f in never (cc)
      go (Label l) w h f =
          let z = sym (ap (key_in labels pending) w) ∙ f in
          let r = key_known labels l.location.source owner (part pending l.name_at l.name_len) name (cc) in
          record { counted = h; label = l; waits_for = w; name_is = r.0; place = r.1; resolved = ap (labelled labels l.location.source) (sym r.0) ∙ r.2; owner_is = r.3 }

  pub resolves_listed : Resolves labels pending n name owner → Listed labels pending n name owner
  resolves_listed r =
      let l = r.label in
      let e : key_at labels pending n ≡ Some (label_key name owner) =
      ap (key_in labels pending) r.waits_for
      ∙ ap (λ (x : List ℕ). Some (key_for labels l.location.source x)) r.name_is
      ∙ ap Some (known_key labels l.location.source owner name r.place r.resolved r.owner_is) in
      (index_says labels pending).whole n r.counted (label_key name owner) e
