-- A region that overlaps no other (document 02, P11: "the region .. overlaps no other"). Assumes nothing.
use Rattle.std.specs.Prelude.{ℕ, ◌^◌, ◌<◌, ◌≡◌, length}
use Rattle.reading.specs.Reading.{ImageRegion, Image, region_in}
use Rattle.dry_run_outcome.specs.Fetch.{offset_in}

-- The region has a byte at address a. Addresses wrap at 2^32, as pcs do: a region may run on from 0xFFFFFFFF to 0.
abbrev pub HasByte : ImageRegion → (a : ℕ) → Type 0
HasByte region a = offset_in region.address a < length region.bytes

-- region n and any other have no address in common
abbrev pub Alone : Image → (n : ℕ) → Type 0
Alone image n = (k : ℕ) → k < length image → (k ≡ n → ⊥) → (a : ℕ) → a < 2 ^ 32 → HasByte (region_in image n) a → HasByte (region_in image k) a → ⊥
