-- Patches as values, with names as bytes, so that patches in two buffers can be compared (document 01, 'Pending 36, breakpoint 37'). Assumes nothing.
use Rattle.std.specs.Prelude.{ℕ, ◌+◌, ◌*◌, List, [], ◌∷◌, ◌++◌, map, None, Option, Some}
use Rattle.field.specs.Wrap.{wrap32}
use Rattle.record.specs.Records.{places}
use Rattle.record.specs.declared.Location.{Location}
use Rattle.labels.specs.Labels.{Table}
use Rattle.patch.specs.Patches.{plus_offset}
use Rattle.address_label.specs.LabelBytes.{name_bytes}
use Rattle.address_label.specs.declared.AddressLabel.{AddressLabel}
use Rattle.address_label.specs.declared.AddressLabel.TheVariants.{Constant, Label}
use Rattle.pending.specs.Pendings.{pending_at}
use Rattle.pending.specs.declared.InstructionLabelKind.{InstructionLabelKind}
use Rattle.pending.specs.declared.Origin.{Origin}
use Rattle.pending.specs.declared.Pending.{Pending}
use Rattle.emit_pairs.specs.declared.InstructionPair.{InstructionPair}
use Rattle.pending.specs.declared.InstructionLabel.{InstructionLabel}

-- what a patch waits for: "form (1 byte: 0 constant, 1 name), value or added offset (8), the name's location, name"
pub data Target : Type 0 where
  Value : ℕ → Target
  Name : (name : List ℕ) → Location → (offset : ℕ) → Target

-- "region (2 bytes), offset (4), location, patch kind (1 byte)", and what it waits for
pub record Patch : Type 0 where
  pub region : ℕ
  pub offset : ℕ
  pub location : Location
  pub kind : InstructionLabelKind
  pub target : Target

-- a label, with the bytes of its name, as a target
abbrev pub target_of : AddressLabel → (name : List ℕ) → Target
target_of (Constant value) name = Value value
target_of (Label label) name = Name name label.location label.offset

-- "A destination is a constant's low 32 bits, or label address plus offset"; document 02, P6: a name resolves by "the source in the name's
-- location"
abbrev pub target_address : Table → Target → Option ℕ
target_address labels (Value value) = Some (wrap32 value)
target_address labels (Name name location offset) = plus_offset (labels.address location.source name) offset

-- ---- the patches of a pending list

abbrev pub patch_of : Pending → (name : List ℕ) → Patch
patch_of p name = record { region = p.region; offset = p.offset; location = p.location; kind = p.kind; target = target_of p.label name }

abbrev pub patch_at : List ℕ → ℕ → Patch
patch_at pending at = patch_of (pending_at pending at) (name_bytes pending (pending_at pending at).label)

unfoldable pub patches_in : List ℕ → List Patch
unfolding places
patches_in pending = map (patch_at pending) (places pending)

-- ---- the patches of a line: its first word has the given origin, and its names are in its token list

-- the origin of the word with index i
abbrev pub origin_at : Origin → ℕ → Origin
origin_at origin i = record { region = origin.region; offset = origin.offset + 4 * i; location = origin.location }

-- the patch of a word that waits for this target
abbrev pub patch_to : (word : Origin) → InstructionLabelKind → Target → Patch
patch_to word kind target = record { region = word.region; offset = word.offset; location = word.location; kind = kind; target = target }

-- one patch if the word waits for a label, else none
abbrev pub pair_patches : (token_list : List ℕ) → (word : Origin) → Option InstructionLabel → List Patch
pair_patches token_list word None = []
pair_patches token_list word (Some waits) = patch_to word waits.kind (target_of waits.label (name_bytes token_list waits.label)) ∷ []

-- the patches of the words from index i on
unfoldable pub patches_from : (token_list : List ℕ) → Origin → (i : ℕ) → List InstructionPair → List Patch
patches_from token_list origin i [] = []
patches_from token_list origin i (p ∷ ps) = pair_patches token_list (origin_at origin i) p.label ++ patches_from token_list origin (i + 1) ps
