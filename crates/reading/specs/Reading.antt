-- The finished image, and document 01's MIPS32 reading of each patch in it. Assumes nothing.
use Rattle.std.specs.Prelude.{ℕ, ◌+◌, ◌-◌, ◌*◌, ◌/◌, ◌%◌, ◌^◌, List, [], map, true, false, get_or, ltb, Option, Some}
use Rattle.field.specs.Wrap.{wrap32}
use Rattle.record.specs.Bytes.{le32, part}
use Rattle.record.specs.Records.{body_len, places}
use Rattle.labels.specs.Labels.{Table}
use Rattle.pending.specs.declared.InstructionLabelKind.{InstructionLabelKind}
use Rattle.pending.specs.declared.InstructionLabelKind.TheVariants.{Branch, Jump, Lower, Upper, Full}
use Rattle.pending.specs.declared.Pending.{Pending}
use Rattle.pending.specs.Pendings.{pending_at}
use Rattle.patch.specs.Patches.{after, destination}

-- "its image is each region's address and final data"
pub record ImageRegion : Type 0 where
  pub address : ℕ
  pub bytes : List ℕ

abbrev pub Image : Type 0
Image = List ImageRegion

abbrev pub image_region : List ℕ → ℕ → ImageRegion
image_region s p = record { address = le32 s (p + 4); bytes = part s (p + 8) (body_len s p - 4) }

unfoldable pub image_of : List ℕ → Image
unfolding places
image_of s = map (image_region s) (places s)

abbrev pub missing_region : ImageRegion
missing_region = record { address = 0; bytes = [] }

abbrev pub region_in : Image → ℕ → ImageRegion
region_in image n = get_or image n missing_region

-- "Reading back uses the image and a patch's place and kind."
abbrev pub pc_in : Image → Pending → ℕ
pc_in image p = wrap32 ((region_in image p.region).address + p.offset)

-- the word at a patch, and the low 16 bits of a word
abbrev pub word_in : Image → ℕ → ℕ → ℕ
word_in image region offset = le32 (region_in image region).bytes offset

abbrev pub half : ℕ → ℕ
half w = w % 65536

-- four times a word's low 16 bits signed, modulo 2^32
unfoldable pub signed_bytes : ℕ → ℕ
signed_bytes n = elim (ltb n 32768) [ true ↦ 4 * n | false ↦ 4 * n + (2 ^ 32 - 4 * 65536) ]

-- "Branch: pc+4 plus four times the word's low 16 bits signed, wrapping. Jump: top four bits of pc+4, then the low 26 bits times four.
-- Full: the word. A half is a word's low 16 bits, read with its pair": the Upper's half times 65,536 plus the Lower's, which is four bytes
-- later.
unfoldable pub read_by : InstructionLabelKind → Image → Pending → ℕ
unfolding signed_bytes
read_by Branch image p = wrap32 (after (pc_in image p) + signed_bytes (half (word_in image p.region p.offset)))
read_by Jump image p = after (pc_in image p) / 2 ^ 28 * 2 ^ 28 + word_in image p.region p.offset % 2 ^ 26 * 4
read_by Lower image p = half (word_in image p.region (p.offset - 4)) * 65536 + half (word_in image p.region p.offset)
read_by Upper image p = half (word_in image p.region p.offset) * 65536 + half (word_in image p.region (p.offset + 4))
read_by Full image p = word_in image p.region p.offset

abbrev pub reading : Image → Pending → ℕ
reading image p = read_by p.kind image p

-- one reading for each pending of a list, in list order; then one destination for each
unfoldable pub readings : Image → List ℕ → List (Option ℕ)
unfolding places read_by
readings image pending = map (λ (at : ℕ). Some (reading image (pending_at pending at))) (places pending)

unfoldable pub destinations : (labels : Table) (pending : List ℕ) → List (Option ℕ)
unfolding places destination
destinations labels pending = map (λ (at : ℕ). destination labels pending (pending_at pending at).label) (places pending)
