-- One patch: its destination, its field, its range, its place, its checks and its word (document 01, 'Label 34, region 35, entry 38', 'Where
-- the work stops'). Assumes nothing.
use Rattle.std.specs.Prelude.{ℕ, ◌+◌, ◌-◌, ◌/◌, ◌%◌, ◌^◌, Bool, true, false, ◌&&◌, List, ◌==◌, nat_le, Err, None, Ok, Option, Some}
use Rattle.field.specs.Field.{set_field}
use Rattle.field.specs.Wrap.{wrap32}
use Rattle.jobs.specs.declared.Job.{Job}
use Rattle.jobs.specs.Jobs.{most_back, most_ahead}
use Rattle.record.specs.Bytes.{le32, part}
use Rattle.record.specs.Stores.{le32_bytes, append}
use Rattle.record.specs.declared.Location.{Location}
use Rattle.refusal.specs.Numbers.{zero_location}
use Rattle.refusal.specs.declared.Refusal.TheVariants.{PatchPastEnd, UnknownLabel, JumpOutOfRange}
use Rattle.labels.specs.Labels.{Table}
use Rattle.address_label.specs.declared.AddressLabel.{AddressLabel}
use Rattle.address_label.specs.declared.AddressLabel.TheVariants.{Constant, Label}
use Rattle.pending.specs.declared.InstructionLabelKind.{InstructionLabelKind}
use Rattle.pending.specs.declared.InstructionLabelKind.TheVariants.{Branch, Jump, Lower, Upper, Full}
use Rattle.pending.specs.declared.Pending.{Pending}
use Rattle.regions.specs.declared.Region.{Region}
use Rattle.regions.specs.Regions.{region_place, region_at}
use Rattle.refusal.specs.Verdicts.{Verdict}

-- "label address plus offset. The sum wraps at 2^32."
abbrev pub plus_offset : Option ℕ → ℕ → Option ℕ
plus_offset (Some address) offset = Some (wrap32 (address + offset))
plus_offset None offset = None

-- "A destination is a constant's low 32 bits, or label address plus offset." The name is in the list s, and resolves by "the source in
-- the name's location" (document 02, P6).
unfoldable pub destination : (labels : Table) (s : List ℕ) → AddressLabel → Option ℕ
destination labels s (Constant value) = Some (wrap32 value)
destination labels s (Label name) = plus_offset (labels.address name.location.source (part s name.name_at name.name_len)) name.offset

-- the destination, where the name's address is given
abbrev pub given_destination : AddressLabel → Option ℕ → Option ℕ
given_destination (Constant value) address = Some (wrap32 value)
given_destination (Label name) address = plus_offset address name.offset

-- where the name ends in its list
abbrev pub name_end : AddressLabel → ℕ
name_end (Constant value) = 0
name_end (Label name) = name.name_at + name.name_len

-- "So do pc, which is region address plus offset, and pc plus 4."
abbrev pub pc_of : Region → Pending → ℕ
pc_of region p = wrap32 (region.address + p.offset)

abbrev pub after : ℕ → ℕ
after pc = wrap32 (pc + 4)

-- how many bits a patch writes, from bit 0 on
unfoldable pub field_width : InstructionLabelKind → ℕ
field_width Branch = 16
field_width Jump = 26
field_width Lower = 16
field_width Upper = 16
field_width Full = 32

-- "Branch distance is destination/4 minus (pc+4)/4, both rounded down; ... its low 16 bits stored."
abbrev pub distance_bits : ℕ → ℕ → ℕ
distance_bits pc dest = (dest / 4 + 2 ^ 32 - after pc / 4) % 65536

-- "Jump: ... 26 bits of destination/4 are stored." "Lower and Upper store a half; Full the whole."
unfoldable pub field_value : InstructionLabelKind → ℕ → ℕ → ℕ
field_value Branch pc dest = distance_bits pc dest
field_value Jump pc dest = dest / 4 % 2 ^ 26
field_value Lower pc dest = dest % 65536
field_value Upper pc dest = dest / 65536
field_value Full pc dest = dest

-- whether a build accepts a branch's distance: "-0x10000 to 0xFFFF is accepted", or the job's own range
unfoldable pub branch_in_range : Job → ℕ → ℕ → Bool
branch_in_range job pc dest = nat_le (after pc / 4) (dest / 4 + most_back job) && nat_le (dest / 4) (after pc / 4 + most_ahead job)

-- "Jump: top four bits of destination and pc+4 agree"
unfoldable pub jump_in_range : ℕ → ℕ → Bool
jump_in_range pc dest = dest / 2 ^ 28 == after pc / 2 ^ 28

unfoldable pub in_range : Job → InstructionLabelKind → ℕ → ℕ → Bool
unfolding branch_in_range jump_in_range
in_range job Branch pc dest = branch_in_range job pc dest
in_range job Jump pc dest = jump_in_range pc dest
in_range job Lower pc dest = true
in_range job Upper pc dest = true
in_range job Full pc dest = true

-- the word that a patch leaves: "altered only in the patched fields"
abbrev pub patched_word : InstructionLabelKind → ℕ → ℕ → ℕ → ℕ
patched_word kind pc dest word = set_field word 0 (field_width kind) (field_value kind pc dest)

-- the region that a pending names, and where the patch's four bytes are in the list of regions
abbrev pub region_for : List ℕ → Pending → Region
region_for regions p = region_at regions (region_place regions p.region)

abbrev pub slot_of : List ℕ → Pending → ℕ
slot_of regions p = (region_for regions p).start + p.offset

-- ---- the checks: 14, 15, 16

-- "the name's [location] for 13 and 15"
abbrev pub name_location : AddressLabel → Location
name_location (Constant value) = zero_location
name_location (Label name) = name.location

-- "15. That patch's name is unknown. 16. Its branch or jump is out of range (a: destination, b: pc)."
unfoldable pub reach_verdict : Job → Pending → ℕ → Option ℕ → Verdict
unfolding in_range
reach_verdict job p pc None = Err (UnknownLabel (name_location p.label))
reach_verdict job p pc (Some dest) = elim (in_range job p.kind pc dest) [ true ↦ Ok tt | false ↦ Err (JumpOutOfRange p.location dest pc) ]

-- "14. A patch, taken in patch order, ends past its region's data"; the patch's destination is given
abbrev pub patch_stop : Job → Region → Pending → Option ℕ → Verdict
patch_stop job region p address =
    elim (nat_le (p.offset + 4) region.size) [
      | true ↦ reach_verdict job p (pc_of region p) address
      | false ↦ Err (PatchPastEnd p.location)
    ]

unfoldable pub pending_verdict : Job → (labels : Table) (pending : List ℕ) → Region → Pending → Verdict
unfolding reach_verdict destination
pending_verdict job labels pending region p = patch_stop job region p (destination labels pending p.label)

-- ---- the word written

-- the address, or `other` for an unknown one, which has been refused before
abbrev pub address_or : ℕ → Option ℕ → ℕ
address_or other (Some address) = address
address_or other None = other

-- the region list with the patch's word stored; the patch's destination is given
abbrev pub write_word : Region → Pending → Option ℕ → List ℕ → List ℕ
write_word region p address d =
    append d (region.start + p.offset)
    (le32_bytes (patched_word p.kind (pc_of region p) (address_or 0 address) (le32 d (region.start + p.offset))))

unfoldable pub write_pending : (labels : Table) (pending : List ℕ) → Region → Pending → List ℕ → List ℕ
unfolding append destination
write_pending labels pending region p = write_word region p (destination labels pending p.label)
