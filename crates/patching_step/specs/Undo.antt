-- What the functions that undo patches promise. Assumes nothing.
use Rattle.std.specs.Prelude.{ℕ, ◌+◌, ◌*◌, ◌≤◌, ◌<◌, true, false, List, ◌≡◌, length, get_or, take, leb, None}
use Rattle.record.specs.Stores.{append}
use Rattle.regions.specs.Regions.{region_layout, region_count}
use Rattle.pending.specs.Pendings.{pending_at, PendingIs}
use Rattle.patch.specs.Patches.{region_for, slot_of}

-- puts bytes back at one patch, unless it ends past its region's data
abbrev pub back_at : (regions pending bytes : List ℕ) (at : ℕ) → List ℕ → List ℕ
back_at regions pending bytes at d =
    let q = pending_at pending at in
    elim (leb (q.offset + 4) (region_for regions q).size) [ true ↦ append d (slot_of regions q) bytes | false ↦ d ]

-- at this place there is a pending, and its region is listed
pub record PatchAt (regions pending : List ℕ) (at : ℕ) : Type 0 where
  pub pending_is : PendingIs pending at
  pub region_is : (pending_at pending at).region < region_count regions

-- the first `fill` bytes are a region list
pub record FilledRegions (fill : ℕ) (buffer : List ℕ) : Type 0 where
  pub within : fill ≤ length buffer
  pub good : region_layout (take fill buffer) ≡ None

-- patches of listed regions, with four bytes for each
pub record PatchesAt (regions pending order kept : List ℕ) : Type 0 where
  pub each : (i : ℕ) → i < length order → PatchAt regions pending (get_or order i 0)
  pub room : 4 * length order ≤ length kept
