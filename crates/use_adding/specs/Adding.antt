-- Where a key stands in an index that a buffer holds, and the index with one more use. Assumes nothing.
use Rattle.std.specs.Prelude.{ℕ, ◌+◌, ◌*◌, ◌-◌, ◌≤◌, ◌<◌, ◌^◌, Bool, true, false, ◌≡◌, length, Result, Ok, Err}
use mathlib.Core.List.{List, [], ◌∷◌, ◌++◌, Memᴰ}
use Rattle.record.specs.Bytes.{part}
use Rattle.record.specs.Records.{next, limit}
use Rattle.record.specs.Stores.{le16_bytes, append}
use Rattle.label_uses.specs.Uses.{kept_of, UseKey, Use, use_order, insert_use}
use Rattle.label_uses.specs.UseBytes.{uses_bytes}
use Rattle.label_uses.specs.Held.{Holds, Passed}
use Rattle.label_uses.specs.ReadUse.{owner_place}
use Rattle.std.specs.declared.cmp.Ordering.TheVariants.{Less, Equal}

-- the buffer is within the limit, its filled part is the bytes of the uses, and each owner or source fits 32 bits
pub record IndexIn (d : List ℕ) (fill : ℕ) (us : List Use) : Type 0 where
  pub holds : Holds d fill us
  pub limited : length d ≤ limit
  pub owners : (u : Use) → Memᴰ u us → kept_of u.key.standing < 2 ^ 32

pub record AnIndex (d : List ℕ) (fill : ℕ) : Type 0 where
  pub us : List Use
  pub index_in : IndexIn d fill us

-- an index with room for one more use
pub record AnIndexWithRoom (d : List ℕ) (fill : ℕ) (key : UseKey) (n : ℕ) : Type 0 where
  pub us : List Use
  pub index_in : IndexIn d fill us
  pub room : length (uses_bytes (insert_use key n us)) ≤ length d

-- the key goes before the first use, if there is one
abbrev pub Heads : UseKey → List Use → Type 0
Heads key [] = Unit {0}
Heads key (u ∷ us) = use_order key u.key ≡ Less

-- `at` is the place of the key's record (true), or the place where the key sorts (false)
pub data PlaceIs (us : List Use) (key : UseKey) (at : ℕ) : Bool → Type 0 where
  stands : (l r : List Use) (u : Use) → us ≡ l ++ (u ∷ r) → Passed key l → at ≡ length (uses_bytes l) → use_order key u.key ≡ Equal → PlaceIs us key at true
  missing : (l r : List Use) → us ≡ l ++ r → Passed key l → at ≡ length (uses_bytes l) → Heads key r → PlaceIs us key at false

abbrev pub Finds : (d : List ℕ) (fill : ℕ) → UseKey → (at : ℕ) → Bool → Type 0
Finds d fill key at found = (us : List Use) → IndexIn d fill us → PlaceIs us key at found

-- the same in an index that fills its buffer: Ok has where the key stands, Err where it sorts
abbrev pub FindsIn : (s : List ℕ) → UseKey → Result ℕ ℕ → Type 0
FindsIn s key (Ok at) = Finds s (length s) key at true
FindsIn s key (Err at) = Finds s (length s) key at false

-- the record at `at` has its owner or source, and ends within the list
pub record UseAt (s : List ℕ) (at : ℕ) : Type 0 where
  pub room : owner_place s at + 4 ≤ next s at
  pub within : next s at ≤ length s

-- buffer e and its fill count hold the index with one more use
pub record Adds (d e : List ℕ) (key : UseKey) (n fill : ℕ) (us : List Use) : Type 0 where
  pub bytes : e ≡ append d 0 (uses_bytes (insert_use key n us))
  pub filled : fill ≡ length (uses_bytes (insert_use key n us))

abbrev pub AddsTo : (d e : List ℕ) (fill : ℕ) (key : UseKey) (n new : ℕ) → Type 0
AddsTo d e fill key n new = (us : List Use) → IndexIn d fill us → Adds d e key n new us

-- the buffer with n appended to the numbers of the record at `at`, whose length was `len` and whose count was `count`
abbrev pub grown_at : (d : List ℕ) (fill at n len count : ℕ) → List ℕ
grown_at d fill at n len count =
    append
    (append (append (append d (at + 7 + 2 * count + 2) (part d (at + 7 + 2 * count) (fill - (at + 7 + 2 * count)))) (at + 7 + 2 * count) (le16_bytes n)) at (le16_bytes (len + 2)))
    (at + 5) (le16_bytes (count + 1))

-- the index's length with one more use, whatever its number
abbrev pub SizeWith : (d : List ℕ) (fill : ℕ) → UseKey → (size : ℕ) → Type 0
SizeWith d fill key size = (us : List Use) → IndexIn d fill us → (n : ℕ) → size ≡ length (uses_bytes (insert_use key n us))
