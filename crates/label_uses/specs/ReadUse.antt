-- A record of an index, taken apart (document 02, P1). Assumes nothing.
use Rattle.std.specs.Prelude.{ℕ, zero, suc, ◌+◌, ◌*◌, ◌-◌, ◌≤◌, List, [], ◌∷◌, ◌≡◌, length, Bool, true, false, eqb}
use Rattle.record.specs.Bytes.{byte_at, le16, le32, part}
use Rattle.record.specs.Records.{next, body_len, kind_at}
use Rattle.label_uses.specs.Uses.{UseKey, Use}
use Rattle.label_uses.specs.declared.Standing.{Standing}
use Rattle.label_uses.specs.declared.Standing.TheVariants.{Known, Unknown}

-- "known flag (1 byte), count (2), list numbers (2 each)", then owner or source (4), name
abbrev pub count_at : List ℕ → ℕ → ℕ
count_at s at = le16 s (at + 5)

-- where the numbers end and the owner or source begins
abbrev pub owner_place : List ℕ → ℕ → ℕ
owner_place s at = at + 7 + 2 * count_at s at

abbrev pub key_with : (name : List ℕ) → Standing → UseKey
key_with name standing = record { name = name; standing = standing }

-- the standing that a known flag and an owner or source give
abbrev pub standing_read : Bool → ℕ → Standing
standing_read true owner = Known owner
standing_read false source = Unknown source

abbrev pub key_read : List ℕ → ℕ → UseKey
key_read s at =
    key_with (part s (owner_place s at + 4) (next s at - (owner_place s at + 4))) (standing_read (eqb (byte_at s (at + 4)) 1) (le32 s (owner_place s at)))

-- reads n numbers of two bytes, from i on
unfoldable pub halves_at : (n : ℕ) → List ℕ → ℕ → List ℕ
halves_at zero s i = []
halves_at (suc n) s i = le16 s i ∷ halves_at n s (i + 2)

abbrev pub use_read : List ℕ → ℕ → Use
use_read s at = record { key = key_read s at; numbers = halves_at (count_at s at) s (at + 7) }

-- the record at `at` can be one of an index: it is whole, has "kind 39", a "known flag" of 0 or 1, and room for its numbers and the 4 bytes
-- before its name
pub record RecordOk (s : List ℕ) (at : ℕ) : Type 0 where
  pub within : next s at ≤ length s
  pub kind_is : kind_at s at ≡ 39
  pub flag_is : byte_at s (at + 4) ≤ 1
  pub room : 7 + 2 * count_at s at ≤ body_len s at
