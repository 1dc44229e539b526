-- The premises of P11 (document 02), but not that "the region ends below 2^32": the claims hold without it, since pcs wrap.
-- Assumes nothing.
use Rattle.std.specs.Prelude.{ℕ, ◌+◌, ◌/◌, ◌%◌, ◌≤◌, ◌≡◌, List, length, Ok, Some}
use Rattle.jobs.specs.declared.Job.TheVariants.{Commit}
use Rattle.registers.specs.Numbers.{register_number}
use Rattle.registers.specs.declared.RegisterSlot.{RegisterSlot}
use Rattle.emit_pairs.specs.Pairs.{at_number}
use Rattle.address_label.specs.declared.AddressLabel.{AddressLabel}
use Rattle.address_label.specs.LabelBytes.{name_bytes}
use Rattle.operand.specs.declared.InstructionValue.{InstructionValue}
use Rattle.operand.specs.declared.InstructionValue.TheVariants.{Slot, Literal}
use Rattle.build_outcome.specs.Build.{build_verdict, build_outcome}
use Rattle.finished_words.specs.Listed.{Bytes}
use Rattle.reading.specs.Reading.{image_of}
use Rattle.routine.specs.PatchValues.{target_of, target_address}
use Rattle.machine.specs.declared.Machine.{Machine}
use Rattle.pseudo_meaning.specs.Overlap.{Alone}
use Rattle.pseudo_meaning.specs.Lines.{LineInBuild, line_pc, after_pc, Stands}

module _ (site : LineInBuild) where
  -- the region list that the build leaves
  abbrev pub finished_regions : List ℕ
  finished_regions = (build_outcome site.build site.labels site.entry site.regions site.pending).regions

  -- the line in an accepted build
  pub record Placed : Type 0 where
    pub built : build_verdict site.build site.labels site.entry site.regions site.pending ≡ Ok tt
    -- the region list's elements are bytes, as in every lent slice
    pub of_bytes : Bytes site.regions
    -- the line's words and patches are there, and "no other patch touches the line"
    pub stands : Stands site
    -- "the line starts on a multiple of four"
    pub aligned : line_pc site % 4 ≡ 0
    -- "the region .. overlaps no other"
    pub alone : Alone (image_of finished_regions) site.call.numbers.place.region

  -- "The destination is a multiple of four and within 16 signed bits". A build by the manual refuses longer distances, so the second half is
  -- a premise only in a build by the commit.
  pub record Reached (label : AddressLabel) (dest : ℕ) : Type 0 where
    pub known : target_address site.labels (target_of label (name_bytes site.call.token_list label)) ≡ Some dest
    pub multiple : dest % 4 ≡ 0
    pub back : site.build ≡ Commit → after_pc site / 4 ≤ dest / 4 + 32768
    pub ahead : site.build ≡ Commit → dest / 4 ≤ after_pc site / 4 + 32767

-- "the first compared operand is not $at where the second is a literal"
abbrev pub FirstStays : RegisterSlot → InstructionValue → Type 0
FirstStays first (Slot second) = Unit {0}
FirstStays first (Literal n) = register_number first ≡ at_number → ⊥

-- "run from their first word": a machine of 32 registers, at that pc
pub record Ready (pc : ℕ) (m : Machine) : Type 0 where
  pub there : m.pc ≡ pc
  pub all_32 : length m.registers ≡ 32
