-- A routine with labels at its lines, and a build of what it leaves. Assumes nothing.
use Rattle.std.specs.Prelude.{ℕ, ◌+◌, ◌/◌, ◌%◌, ◌^◌, ◌<◌, ◌≤◌, ◌≡◌, List, ◌∷◌, None, Ok, Some}
use Rattle.record.specs.Records.{places}
use Rattle.record.specs.declared.Location.{Location}
use Rattle.labels.specs.Labels.{Table}
use Rattle.regions.specs.declared.Region.{Region}
use Rattle.regions.specs.Regions.{region_layout, region_count, region_place, region_at}
use Rattle.address_label.specs.Entries.{entry_layout, entry_of}
use Rattle.pending.specs.declared.InstructionLabelKind.{InstructionLabelKind}
use Rattle.pending.specs.declared.InstructionLabelKind.TheVariants.{Jump}
use Rattle.build_outcome.specs.Build.{entry_verdict}
use Rattle.reading.specs.OnTarget.{Going}
use Rattle.routine.specs.PatchValues.{Patch, Name, target_address}
use Rattle.routine.specs.Run.{filled, Buffers, RoutineLine, after_line, run, Each}

-- the pending list that the lines leave
abbrev pub left_pending : List RoutineLine → Buffers → List ℕ
left_pending lines start = filled (run lines start).pending

-- region r of a build's list
abbrev pub region_number : List ℕ → ℕ → Region
region_number regions r = region_at regions (region_place regions r)

-- where a label may be in a region: at the end of the region's data before one of the lines, or after all of them
pub data LineMark (region : ℕ) : List RoutineLine → Buffers → ℕ → Type 0 where
  before : {lines : List RoutineLine} {b : Buffers} → LineMark region lines b (b.region_data region).fill
  behind : {l : RoutineLine} {lines : List RoutineLine} {b : Buffers} {n : ℕ} → LineMark region lines (after_line l b) n → LineMark region (l ∷ lines) b n

-- A region in which a branch or a jump can always go to itself: otherwise even that is refused with 16. The region ends below 2^32, where pc plus 4
-- wraps to 0. For a jump it also ends in the page of 2^28 bytes where it starts, as pc plus 4 at the end of a page is in the next.
pub record Plain (kind : InstructionLabelKind) (region : Region) : Type 0 where
  pub below : region.address + region.size < 2 ^ 32
  pub page : kind ≡ Jump → (region.address + region.size) / 2 ^ 28 ≡ region.address / 2 ^ 28

module _ (lines : List RoutineLine) (start : Buffers) (labels : Table) (regions : List ℕ) where
  -- The patch waits for a name without an offset. For the name's source file, the table has that name at the place of a label.
  pub record ToLine (y : Patch) : Type 0 where
    pub name : List ℕ
    pub location : Location
    pub waits_for : y.target ≡ Name name location 0
    pub region : ℕ
    pub mark : ℕ
    pub marked : LineMark region lines start mark
    pub address_is : labels.address location.source name ≡ Some ((region_number regions region).address + mark)

  -- What a routine must keep to: a half's name is known, and a branch or a jump goes to a label in its own region, which is `Plain` for it.
  pub record Settled (y : Patch) : Type 0 where
    pub half_known : (Going y.kind → ⊥) → (d : ℕ) × (target_address labels y.target ≡ Some d)
    pub to_line : Going y.kind → ToLine y
    pub in_own : (g : Going y.kind) → (to_line g).region ≡ y.region
    pub plain : Going y.kind → Plain y.kind (region_number regions y.region)

-- the build has the regions that the lines selected, each at least as long as the lines left it
pub record Holds (lines : List RoutineLine) (start : Buffers) (regions : List ℕ) : Type 0 where
  pub regions_good : region_layout regions ≡ None
  pub selected : Each (λ l. l.place.region < region_count regions) lines
  pub data_kept : (r : ℕ) → r < region_count regions → ((run lines start).region_data r).fill ≤ (region_number regions r).size

-- the build's labels and entry: refusals 1, 2 and 13 are not due
pub record OthersPass (labels : Table) (entry : List ℕ) : Type 0 where
  pub labels_good : labels.layout ≡ None
  pub names_good : labels.repeat ≡ None
  pub entry_good : entry_layout entry ≡ None
  pub entry_passes : entry_verdict labels entry (entry_of entry (places entry)) ≡ Ok tt

-- every region begins at a multiple of four
abbrev pub OnWords : List ℕ → Type 0
OnWords regions = (r : ℕ) → r < region_count regions → (region_number regions r).address % 4 ≡ 0
