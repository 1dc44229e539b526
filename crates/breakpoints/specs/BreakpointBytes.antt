-- A breakpoint record as bytes (document 01, 'Pending 36, breakpoint 37'). Assumes nothing.
use Rattle.std.specs.Prelude.{ℕ, zero, suc, ◌+◌, ◌*◌, ◌^◌, ◌≤◌, List, [], ◌∷◌, ◌++◌}
use Rattle.record.specs.Stores.{le32_bytes, location_bytes, record_bytes, LocationFits}
use Rattle.record.specs.declared.Location.{Location}

-- the pcs of n words; the first is `pc`
unfoldable pub pcs_from : (n pc : ℕ) → List ℕ
pcs_from zero pc = []
pcs_from (suc n) pc = pc ∷ pcs_from n (pc + 4)

-- "one 4-byte pc a word"
unfoldable pub pcs_bytes : (n pc : ℕ) → List ℕ
pcs_bytes zero pc = []
pcs_bytes (suc n) pc = le32_bytes pc ++ pcs_bytes n (pc + 4)

-- "Breakpoint: location, then one 4-byte pc a word."
abbrev pub breakpoint_bytes : Location → (pc n : ℕ) → List ℕ
breakpoint_bytes location pc n = record_bytes 37 (location_bytes location ++ pcs_bytes n pc)

-- a breakpoint that a list can hold: it has one to five words, and its parts fit the record's fields
pub record BreakpointFits (location : Location) (pc n : ℕ) : Type 0 where
  pub location_fits : LocationFits location
  pub least : 1 ≤ n
  pub most : n ≤ 5
  pub pcs_fit : pc + 4 * n ≤ 2 ^ 32 + 3
