-- The word that each patch of an accepted build leaves, in the manual's fields. Assumes nothing.
use Rattle.std.specs.Prelude.{ℕ, ◌/◌, ◌%◌, ◌^◌, List, map}
use Rattle.field.specs.Field.{get_field}
use Rattle.word.specs.Layout.{immediate_layout, jump_layout}
use Rattle.record.specs.Bytes.{le32}
use Rattle.record.specs.Records.{places}
use Rattle.labels.specs.Labels.{Table}
use Rattle.pending.specs.declared.InstructionLabelKind.{InstructionLabelKind}
use Rattle.pending.specs.declared.InstructionLabelKind.TheVariants.{Branch, Jump, Lower, Upper, Full}
use Rattle.patch.specs.Patches.{destination, distance_bits}
use Rattle.finished_words.specs.Listed.{kind_of, pc_at, destination_at, slot_at}

-- a word of the immediate format with another immediate: opcode 31..26, rs 25..21 and rt 20..16 stay
abbrev pub with_immediate : (word immediate : ℕ) → ℕ
with_immediate word immediate = immediate_layout (get_field word 26 6) (get_field word 21 5) (get_field word 16 5) immediate

-- a word of the jump format with another target: the opcode 31..26 stays
abbrev pub with_target : (word target : ℕ) → ℕ
with_target word target = jump_layout (get_field word 26 6) target

-- The word of a patch at exit, from its word at entry. "Branch distance is destination/4 minus (pc+4)/4 ... its low 16 bits stored. Jump: ...
-- 26 bits of destination/4 are stored. Lower and Upper store a half; Full the whole."
unfoldable pub finished_word : InstructionLabelKind → (pc dest word : ℕ) → ℕ
finished_word Branch pc dest word = with_immediate word (distance_bits pc dest)
finished_word Jump pc dest word = with_target word (dest / 4 % 2 ^ 26)
finished_word Lower pc dest word = with_immediate word (dest % 65536)
finished_word Upper pc dest word = with_immediate word (dest / 65536)
finished_word Full pc dest word = dest

abbrev pub finished_at : (labels : Table) (regions pending : List ℕ) → ℕ → ℕ
finished_at labels regions pending p =
    finished_word (kind_of pending p) (pc_at regions pending p) (destination_at labels pending p) (le32 regions (slot_at regions pending p))

-- one word for each pending, in list order: first the words in a region list s, then the words that a build leaves
unfoldable pub words_in : (s regions pending : List ℕ) → List ℕ
unfolding places
words_in s regions pending = map (λ (p : ℕ). le32 s (slot_at regions pending p)) (places pending)

unfoldable pub finished_words : (labels : Table) (regions pending : List ℕ) → List ℕ
unfolding places finished_word destination
finished_words labels regions pending = map (finished_at labels regions pending) (places pending)
