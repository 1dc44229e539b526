-- A pending record as bytes, the reverse of `pending_at` (document 01, 'Pending 36, breakpoint 37'). Assumes nothing.
use Rattle.std.specs.Prelude.{ℕ, ◌^◌, ◌<◌, List, ◌∷◌, ◌++◌}
use Rattle.record.specs.Stores.{le16_bytes, le32_bytes, location_bytes, record_bytes, LocationFits}
use Rattle.address_label.specs.LabelBytes.{label_bytes, LabelFits}
use Rattle.pending.specs.declared.InstructionLabel.{InstructionLabel}
use Rattle.pending.specs.declared.InstructionLabelKind.{InstructionLabelKind}
use Rattle.pending.specs.declared.InstructionLabelKind.TheVariants.{Branch, Jump, Lower, Upper, Full}
use Rattle.pending.specs.declared.Origin.{Origin}

-- "0 Branch, 1 Jump, 2 Lower, 3 Upper, 4 Full"
abbrev pub kind_number : InstructionLabelKind → ℕ
kind_number Branch = 0
kind_number Jump = 1
kind_number Lower = 2
kind_number Upper = 3
kind_number Full = 4

-- "region (2 bytes), offset (4), location, patch kind (1 byte)", and the label, whose name stands in `names`
abbrev pub pending_bytes : (names : List ℕ) → Origin → InstructionLabel → List ℕ
pending_bytes names origin waits =
    record_bytes 36
    (le16_bytes origin.region ++ le32_bytes origin.offset ++ location_bytes origin.location ++ kind_number waits.kind ∷ label_bytes names waits.label)

-- an origin and a label whose parts fit the record's fields
pub record PendingFits (names : List ℕ) (origin : Origin) (waits : InstructionLabel) : Type 0 where
  pub region_fits : origin.region < 2 ^ 16
  pub offset_fits : origin.offset < 2 ^ 32
  pub location_fits : LocationFits origin.location
  pub label_fits : LabelFits names waits.label
