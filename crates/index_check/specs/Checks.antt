-- What the check of a handed-in index looks at: each record's form, its key, which must be above the last one's, and its numbers. Assumes nothing.
use Rattle.std.specs.Prelude.{ℕ, zero, suc, ◌+◌, ◌≤◌, ◌<◌, List, [], ◌∷◌, Bool, true, false, ◌≡◌, length, get_or, eqb, None, Option, Some}
use Rattle.record.specs.Bytes.{byte_at, le16, part, same_bytes}
use Rattle.record.specs.Records.{next, places, first_bad, limit}
use Rattle.address_label.specs.declared.AddressLabel.{AddressLabel}
use Rattle.address_label.specs.declared.AddressLabel.TheVariants.{Constant, Label}
use Rattle.pending.specs.Pendings.{pending_ok}
use Rattle.label_uses.specs.Uses.{UseKey, use_order}
use Rattle.label_uses.specs.ReadUse.{count_at, key_read, RecordOk}
use Rattle.label_uses.specs.Says.{key_at}
use Rattle.std.specs.declared.cmp.Ordering.TheVariants.{Less}

-- a test's answer is true exactly if the statement holds
abbrev pub Tells : Bool → Type 0 → Type 0
Tells true holds = holds
Tells false holds = holds → ⊥

-- a record with the form of an index record, within the fill count and with at least one number
pub record RecordIn (s : List ℕ) (fill at : ℕ) : Type 0 where
  pub ok : RecordOk s at
  pub inside : next s at ≤ fill
  pub counted : 0 < count_at s at

-- the source of the label's name, or None if that is not `name`
abbrev pub source_in : (pending name : List ℕ) → AddressLabel → Option ℕ
source_in pending name (Constant value) = None
source_in pending name (Label l) = elim (same_bytes (part pending l.name_at l.name_len) name) [ true ↦ Some l.location.source | false ↦ None ]

-- if something was looked up before (true), the key found then is the key
abbrev pub StandsFrom : Bool → UseKey → UseKey → Type 0
StandsFrom true a b = a ≡ b
StandsFrom false a b = Unit {0}

-- `left` numbers of two bytes each, from place i on: the first is at least `least`, they rise, and each one's pending has the key
pub data NumbersFrom (labels pending : List ℕ) (key : UseKey) (s : List ℕ) : (left i least : ℕ) → Type 0 where
  none_left : {i least : ℕ} → NumbersFrom labels pending key s zero i least
  one_right : {left i least : ℕ} → least ≤ le16 s i → le16 s i < length (places pending) → key_at labels pending (le16 s i) ≡ Some key
      → NumbersFrom labels pending key s left (i + 2) (le16 s i + 1) → NumbersFrom labels pending key s (suc left) i least

pub record ListsIn : Type 0 where
  pub labels : List ℕ
  pub pending : List ℕ

-- the labels are bytes; the pendings are bytes that keep their layout, and ps are their places
pub record Lists (labels pending ps : List ℕ) : Type 0 where
  pub label_bytes : (i : ℕ) → get_or labels i 0 < 256
  pub pending_bytes : (i : ℕ) → get_or pending i 0 < 256
  pub kept : first_bad (pending_ok 16 pending) (places pending) ≡ None
  pub short : length pending ≤ limit
  pub places_are : ps ≡ places pending

-- the record at `at` is right; unless it is the first, its key is above the key of the record at `last`
pub record RecordFine (labels pending s : List ℕ) (fill last at : ℕ) : Type 0 where
  pub record_in : RecordIn s fill at
  pub rises : 0 < at → use_order (key_read s last) (key_read s at) ≡ Less
  pub numbers_are : NumbersFrom labels pending (key_read s at) s (count_at s at) (at + 7) 0

-- how many of the pendings at these places name a label: "form (1 byte: 0 constant, 1 name)"
unfoldable pub names_in : (pending : List ℕ) → List ℕ → ℕ
names_in pending [] = 0
names_in pending (p ∷ ps) = elim (eqb (byte_at pending (p + 19)) 0) [ true ↦ 0 | false ↦ 1 ] + names_in pending ps
