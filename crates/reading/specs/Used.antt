-- The addresses that a build uses: "A used address is that of a label which a pending or the entry names"; document 02, P6: "A used address
-- of two label tables is the one so resolved". Assumes nothing.
use Rattle.std.specs.Prelude.{ℕ, ◌+◌, ◌-◌, ◌≡◌, List, Option}
use Rattle.record.specs.Bytes.{byte_at, le32, part}
use Rattle.record.specs.Records.{body_len}
use Rattle.labels.specs.Labels.{Table}
use Rattle.finished_words.specs.Listed.{In}

abbrev pub pending_name : List ℕ → ℕ → List ℕ
pending_name pending p = part pending (p + 36) (body_len pending p - 32)

abbrev pub entry_name : List ℕ → ℕ → List ℕ
entry_name entry p = part entry (p + 21) (body_len entry p - 17)

-- "the source in the name's location"
abbrev pub pending_source : List ℕ → ℕ → ℕ
pending_source pending p = le32 pending (p + 28)

abbrev pub entry_source : List ℕ → ℕ → ℕ
entry_source entry p = le32 entry (p + 13)

-- the address that the table gives to the name in a pending, and in the entry
abbrev pub used_by : Table → List ℕ → ℕ → Option ℕ
used_by labels pending p = labels.address (pending_source pending p) (pending_name pending p)

abbrev pub used_by_entry : Table → List ℕ → ℕ → Option ℕ
used_by_entry labels entry p = labels.address (entry_source entry p) (entry_name entry p)

-- the two tables agree on the address of each label that a pending or the entry names (form 0 names none)
pub record SameUsed (labels₁ labels₂ : Table) (entry pending : List ℕ) : Type 0 where
  pub by_pending : (p : ℕ) → In pending p → (byte_at pending (p + 19) ≡ 0 → ⊥) → used_by labels₁ pending p ≡ used_by labels₂ pending p
  pub by_entry : (p : ℕ) → In entry p → (byte_at entry (p + 4) ≡ 0 → ⊥) → used_by_entry labels₁ entry p ≡ used_by_entry labels₂ entry p
