-- The patches of a pending list: where each is, its destination, and what no patch writes. Assumes nothing.
use Rattle.std.specs.Prelude.{ℕ, ◌+◌, ◌*◌, ◌<◌, ◌≤◌, ◌≡◌, ◌⊎◌}
use mathlib.Core.List.{List, Memᴰ}
use Rattle.field.specs.Field.{get_field}
use Rattle.record.specs.Bytes.{byte_at}
use Rattle.record.specs.Records.{places}
use Rattle.labels.specs.Labels.{Table}
use Rattle.pending.specs.declared.InstructionLabelKind.{InstructionLabelKind}
use Rattle.pending.specs.Pendings.{pending_at}
use Rattle.patch.specs.Patches.{destination, pc_of, field_width, region_for, slot_of, address_or}

-- ---- the patch of the record at p

abbrev pub In : List ℕ → ℕ → Type 0
In pending p = Memᴰ p (places pending)

abbrev pub kind_of : List ℕ → ℕ → InstructionLabelKind
kind_of pending p = (pending_at pending p).kind

abbrev pub pc_at : (regions pending : List ℕ) → ℕ → ℕ
pc_at regions pending p = pc_of (region_for regions (pending_at pending p)) (pending_at pending p)

abbrev pub destination_at : (labels : Table) (pending : List ℕ) → ℕ → ℕ
destination_at labels pending p = address_or 0 (destination labels pending (pending_at pending p).label)

-- where its four bytes are in the region list
abbrev pub slot_at : (regions pending : List ℕ) → ℕ → ℕ
slot_at regions pending p = slot_of regions (pending_at pending p)

-- "patches not overlapping": "two patches overlap if their four bytes in one region share any"
abbrev pub Apart : List ℕ → Type 0
Apart pending =
    (p q : ℕ) → In pending p → In pending q → (p ≡ q → ⊥) → (pending_at pending p).region ≡ (pending_at pending q).region
    → ((pending_at pending p).offset + 4 ≤ (pending_at pending q).offset) ⊎ ((pending_at pending q).offset + 4 ≤ (pending_at pending p).offset)

-- ---- what no patch writes

-- every element is a byte
abbrev pub Bytes : List ℕ → Type 0
Bytes s = (i : ℕ) → byte_at s i < 256

-- byte i of the region list is outside each patch's four bytes
abbrev pub OutsidePatches : (regions pending : List ℕ) → ℕ → Type 0
OutsidePatches regions pending i = (p : ℕ) → In pending p → (i < slot_at regions pending p) ⊎ (slot_at regions pending p + 4 ≤ i)

-- bit j of byte i is in no patched field. Bits are counted from bit 0 of the list's first byte: words are little-endian, so a field is one
-- run of bits from its word's first byte on.
abbrev pub OutsideFields : (regions pending : List ℕ) (i j : ℕ) → Type 0
OutsideFields regions pending i j =
    (p : ℕ) → In pending p
    → (8 * i + j < 8 * slot_at regions pending p) ⊎ (8 * slot_at regions pending p + field_width (kind_of pending p) ≤ 8 * i + j)

abbrev pub bit_at : List ℕ → ℕ → ℕ → ℕ
bit_at s i j = get_field (byte_at s i) j 1
