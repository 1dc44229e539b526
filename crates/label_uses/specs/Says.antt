-- What the uses of a pending list say, however they are made (document 02, P1). Assumes nothing.
use Rattle.std.specs.Prelude.{ℕ, ◌<◌, ◌≡◌, length, get_or, Option, None, Some}
use mathlib.Core.List.{List, [], ◌∷◌, Memᴰ}
use Rattle.record.specs.Bytes.{part}
use Rattle.record.specs.Records.{places}
use Rattle.address_label.specs.declared.AddressLabel.{AddressLabel}
use Rattle.address_label.specs.declared.AddressLabel.TheVariants.{Constant, Label}
use Rattle.pending.specs.Pendings.{label_of}
use Rattle.label_uses.specs.Uses.{UseKey, Use, key_for, use_order}
use Rattle.std.specs.declared.cmp.Ordering.TheVariants.{Less}

-- the key of a pending's label, if it names one
abbrev pub key_in : (labels pending : List ℕ) → AddressLabel → Option UseKey
key_in labels pending (Constant value) = None
key_in labels pending (Label l) = Some (key_for labels l.location.source (part pending l.name_at l.name_len))

-- the key of pending n in the list
abbrev pub key_at : (labels pending : List ℕ) → ℕ → Option UseKey
key_at labels pending n = key_in labels pending (label_of pending (get_or (places pending) n 0))

-- "each name used, sorted by bytes": each key goes before the next
pub data KeysRise : List Use → Type 0 where
  no_more : KeysRise []
  one_more : {u : Use} → KeysRise (u ∷ [])
  two_more : {u v : Use} {us : List Use} → use_order u.key v.key ≡ Less → KeysRise (v ∷ us) → KeysRise (u ∷ (v ∷ us))

-- "in rising order"
pub data NumbersRise : List ℕ → Type 0 where
  end : NumbersRise []
  last : {n : ℕ} → NumbersRise (n ∷ [])
  then : {n m : ℕ} {ns : List ℕ} → n < m → NumbersRise (m ∷ ns) → NumbersRise (n ∷ (m ∷ ns))

-- what the uses say
pub record Says (labels pending : List ℕ) (us : List Use) : Type 0 where
  pub names_rise : KeysRise us
  pub numbers_rise : (u : Use) → Memᴰ u us → NumbersRise u.numbers × (0 < length u.numbers)
  -- each number stands under the label that its pending names
  pub right : (u : Use) → Memᴰ u us → (n : ℕ) → Memᴰ n u.numbers → (n < length (places pending)) × (key_at labels pending n ≡ Some u.key)
  -- and each pending that names a label stands under it
  pub whole : (n : ℕ) → n < length (places pending) → (key : UseKey) → key_at labels pending n ≡ Some key → (u : Use) × Memᴰ u us × (u.key ≡ key) × Memᴰ n u.numbers
