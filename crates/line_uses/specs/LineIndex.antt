-- The index in a buffer, and the same index with the uses of a line's pendings added. Assumes nothing.
use Rattle.std.specs.Prelude.{ℕ, ◌≤◌, ◌<◌, ◌^◌, Bool, ◌||◌, ◌≡◌, length, Option}
use mathlib.Core.List.{List, Memᴰ}
use Rattle.record.specs.Stores.{append}
use Rattle.address_label.specs.declared.AddressLabel.{AddressLabel}
use Rattle.emit_pairs.specs.declared.InstructionPair.{InstructionPair}
use Rattle.label_uses.specs.Uses.{kept_of, UseKey, Use}
use Rattle.label_uses.specs.UseBytes.{uses_bytes}
use Rattle.label_uses.specs.Says.{KeysRise}
use Rattle.use_adding.specs.Adding.{IndexIn}
use Rattle.line_uses.specs.LineUses.{pair_use, line_uses, has_key, key_among, label_growth, pair_growth}
use Rattle.pending.specs.declared.InstructionLabel.{InstructionLabel}

-- whether a key is in the index already, or among the words before
abbrev pub held_by : (labels names : List ℕ) → List Use → List InstructionPair → UseKey → Bool
held_by labels names us before key = has_key key us || key_among labels names key before

-- how many bytes one more use adds to the index, once the words before have added theirs
abbrev pub LabelGrows : (labels names d : List ℕ) (fill : ℕ) → List InstructionPair → AddressLabel → (size : ℕ) → Type 0
LabelGrows labels names d fill before x size = (us : List Use) → IndexIn d fill us → KeysRise us → size ≡ label_growth labels names (held_by labels names us before) x

abbrev pub PairGrows : (labels names d : List ℕ) (fill : ℕ) → List InstructionPair → Option InstructionLabel → (size : ℕ) → Type 0
PairGrows labels names d fill before waits size = (us : List Use) → IndexIn d fill us → KeysRise us → size ≡ pair_growth labels names (held_by labels names us before) waits

-- how long the index is with all of a line's uses, whatever number n the first pending has
abbrev pub SizeWithLine : (labels names d : List ℕ) (fill : ℕ) → List InstructionPair → (size : ℕ) → Type 0
SizeWithLine labels names d fill pairs size = (us : List Use) → IndexIn d fill us → KeysRise us → (n : ℕ) → size ≡ length (uses_bytes (line_uses labels names n pairs us))

-- owners and sources fit in four bytes
abbrev pub OwnersFit : List Use → Type 0
OwnersFit us = (u : Use) → Memᴰ u us → kept_of u.key.standing < 2 ^ 32

-- there is room for the use of the label that a word waits for; below, the index with that use added
pub record RoomForPair (labels names d : List ℕ) (fill : ℕ) (waits : Option InstructionLabel) (n : ℕ) : Type 0 where
  pub us : List Use
  pub index_in : IndexIn d fill us
  pub room : length (uses_bytes (pair_use labels names waits n us)) ≤ length d

pub record AddsPair (labels names d e : List ℕ) (waits : Option InstructionLabel) (n fill : ℕ) (us : List Use) : Type 0 where
  pub bytes : e ≡ append d 0 (uses_bytes (pair_use labels names waits n us))
  pub filled : fill ≡ length (uses_bytes (pair_use labels names waits n us))
  pub owners : OwnersFit (pair_use labels names waits n us)

abbrev pub AddsPairTo : (labels names d e : List ℕ) (fill : ℕ) (waits : Option InstructionLabel) (n after : ℕ) → Type 0
AddsPairTo labels names d e fill waits n after = (us : List Use) → IndexIn d fill us → AddsPair labels names d e waits n after us

-- the same for a whole line
pub record RoomForLine (labels names d : List ℕ) (fill : ℕ) (pairs : List InstructionPair) (n : ℕ) : Type 0 where
  pub us : List Use
  pub index_in : IndexIn d fill us
  pub room : length (uses_bytes (line_uses labels names n pairs us)) ≤ length d

pub record AddsLine (labels names d e : List ℕ) (pairs : List InstructionPair) (n fill : ℕ) (us : List Use) : Type 0 where
  pub bytes : e ≡ append d 0 (uses_bytes (line_uses labels names n pairs us))
  pub filled : fill ≡ length (uses_bytes (line_uses labels names n pairs us))

abbrev pub AddsLineTo : (labels names d e : List ℕ) (fill : ℕ) (pairs : List InstructionPair) (n after : ℕ) → Type 0
AddsLineTo labels names d e fill pairs n after = (us : List Use) → IndexIn d fill us → AddsLine labels names d e pairs n after us
