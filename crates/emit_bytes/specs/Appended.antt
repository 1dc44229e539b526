-- What a line appends: words to the region data, pending records to the pending list (document 01, 'Pending 36, breakpoint 37').
-- Assumes nothing.
use Rattle.std.specs.Prelude.{ℕ, ◌+◌, List, [], ◌∷◌, ◌++◌, length, None, Option, Some}
use Rattle.record.specs.Stores.{le32_bytes}
use Rattle.address_label.specs.LabelBytes.{name_bytes}
use Rattle.pending.specs.PendingBytes.{pending_bytes}
use Rattle.pending.specs.declared.Origin.{Origin}
use Rattle.emit_pairs.specs.declared.InstructionPair.{InstructionPair}
use Rattle.pending.specs.declared.InstructionLabel.{InstructionLabel}

-- ---- words: "each four little-endian bytes"
unfoldable pub word_bytes : List InstructionPair → List ℕ
word_bytes [] = []
word_bytes (p ∷ ps) = le32_bytes p.word ++ word_bytes ps

-- ---- pending records

-- the origin of the next word of a line
abbrev pub onward : Origin → Origin
onward origin = record { region = origin.region; offset = origin.offset + 4; location = origin.location }

abbrev pub pair_bytes : (tokens : List ℕ) → Origin → Option InstructionLabel → List ℕ
pair_bytes tokens origin None = []
pair_bytes tokens origin (Some waits) = pending_bytes tokens origin waits

-- one record for each word that waits for a label, with the word's offset in the region's data
unfoldable pub pendings_bytes : (tokens : List ℕ) → Origin → List InstructionPair → List ℕ
pendings_bytes tokens origin [] = []
pendings_bytes tokens origin (p ∷ ps) = pair_bytes tokens origin p.label ++ pendings_bytes tokens (onward origin) ps

-- ---- and how many bytes they take
abbrev pub pair_len : (tokens : List ℕ) → Option InstructionLabel → ℕ
pair_len tokens None = 0
pair_len tokens (Some waits) = 36 + length (name_bytes tokens waits.label)

unfoldable pub pendings_len : (tokens : List ℕ) → List InstructionPair → ℕ
pendings_len tokens [] = 0
pendings_len tokens (p ∷ ps) = pair_len tokens p.label + pendings_len tokens ps
