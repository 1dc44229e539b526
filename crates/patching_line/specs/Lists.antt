-- What the parts of a line are given, and what they promise. Assumes nothing.
use Rattle.std.specs.Prelude.{ℕ, ◌+◌, ◌-◌, min, ◌≤◌, true, false, List, [], ◌≡◌, length, take, None, Option, Some, Err, Ok, Result}
use Rattle.jobs.specs.declared.Job.{Job}
use Rattle.record.specs.Records.{places, limit}
use Rattle.regions.specs.declared.Region.{Region}
use Rattle.regions.specs.Regions.{region_layout, region_count}
use Rattle.pending.specs.Pendings.{pending_layout}
use Rattle.breakpoints.specs.Breakpoints.{filled_layout, region_number_ok}
use Rattle.emit_outcome.specs.Call.{Call, call_of, lent_of}
use Rattle.emit_outcome.specs.Answer.{EmitAnswer, refused_at}
use Rattle.emit_outcome.specs.declared.FillCounts.{FillCounts}
use Rattle.emit_outcome.specs.Room.{no_region, most_data}
use Rattle.emit_outcome.specs.Emit.{emit_outcome}
use Rattle.patching_outcome.specs.declared.PatchCounts.{PatchCounts}
use Rattle.patching_outcome.specs.declared.Lined.{Lined}
use Rattle.patching_outcome.specs.Patching.{Patching, patching_of, filled_regions, filled_pendings}
use Rattle.patching_outcome.specs.Line.{LineGiven, is_listed, only_listed, line_layouts, most_words, emit_call, lined_by, LineOutcome}
use Rattle.emit_in_list.specs.InList.{list_call, EmittedIn}
use Rattle.refusal.specs.declared.Refusal.{Refusal}
use Rattle.refusal.specs.Verdicts.{Verdict}
use Rattle.patching_line.specs.Contract.{LineIs}

-- the layout of a line's region list, from its buffer and fill count
abbrev pub listed_in : (region fill : ℕ) → List ℕ → Option ℕ
listed_in region fill s =
    elim (region_number_ok region) [ true ↦ filled_layout fill s (only_listed (is_listed (take fill s) region) (region_layout (take fill s))) | false ↦ Some 0 ]

-- the verdict on the layouts of all lists; none reads the position or the kept words
abbrev pub LayoutsAre : (tokens mnemonic descriptors : List ℕ) (region : ℕ) (regions pending breakpoints : List ℕ) → PatchCounts → Verdict → Type 0
LayoutsAre tokens mnemonic descriptors region regions pending breakpoints counts verdict =
    (position : ℕ) (kept : List ℕ)
    → line_layouts (record { token_list = tokens; mnemonic = mnemonic; descriptors = descriptors; position = position; region = region }) (patching_of regions pending breakpoints kept counts) ≡ verdict

-- lists that keep their layouts
pub record LineLists (regions pending : List ℕ) (counts : PatchCounts) : Type 0 where
  pub regions_short : length regions ≤ limit
  pub regions_within : counts.regions ≤ length regions
  pub regions_good : region_layout (filled_regions regions counts) ≡ None
  pub pending_within : counts.pending ≤ length pending
  pub pending_good : pending_layout (region_count (filled_regions regions counts)) (filled_pendings pending counts) ≡ None
  pub patched : counts.patches ≤ length (places (filled_pendings pending counts))

-- a line whose region is listed and not late
abbrev pub timely : Job → LineGiven → Patching → LineOutcome
timely job g p = let o = emit_outcome job (emit_call g p) in lined_by p g.region o o.answer

-- the call with no region selected
abbrev pub nowhere : (tokens mnemonic descriptors pending breakpoints : List ℕ) → PatchCounts → (position : ℕ) → Call
nowhere tokens mnemonic descriptors pending breakpoints counts position =
    call_of tokens mnemonic descriptors (lent_of [] pending breakpoints)
    (record { data_len = 0; pending = counts.pending; breakpoints = counts.breakpoints })
    (record { position = position; region = no_region; address = 0 })

-- ---- the region that was found

-- how many free bytes of the list's buffer the line may use
abbrev pub room_of : List ℕ → PatchCounts → ℕ
room_of regions counts = min most_words (length regions - counts.regions)

abbrev pub counts_of : PatchCounts → Region → FillCounts
counts_of counts g = record { data_len = g.size; pending = counts.pending; breakpoints = counts.breakpoints }

abbrev pub found_call : (tokens mnemonic descriptors regions pending breakpoints : List ℕ) → PatchCounts → (position region : ℕ) → Region → Call
found_call tokens mnemonic descriptors regions pending breakpoints counts position region g =
    list_call tokens mnemonic descriptors regions pending breakpoints (counts_of counts g) (record { position = position; region = region; address = g.address })
    g.start counts.regions (room_of regions counts)

abbrev pub FoundIn : Job → (tokens mnemonic descriptors regions pending breakpoints : List ℕ) → PatchCounts → (position region : ℕ) → Region
    → EmitAnswer → FillCounts → (regions_after pending_after breakpoints_after : List ℕ) → Type 0
FoundIn job tokens mnemonic descriptors regions pending breakpoints counts position region g answer filled regions_after pending_after breakpoints_after =
    EmittedIn job (found_call tokens mnemonic descriptors regions pending breakpoints counts position region g) regions g.start counts.regions
    answer filled regions_after pending_after breakpoints_after

-- there is room for the words that an accepted call has added
pub record GrowsTo (regions : List ℕ) (counts : PatchCounts) (g : Region) (filled : FillCounts) : Type 0 where
  pub head : 8 ≤ g.start
  pub start_within : g.start ≤ length regions
  pub grew : g.size ≤ filled.data_len
  pub most : filled.data_len ≤ most_data
  pub list_fits : counts.regions + (filled.data_len - g.size) ≤ limit

abbrev pub counts_grown : PatchCounts → Region → FillCounts → PatchCounts
counts_grown counts g filled = record {
  regions = counts.regions + (filled.data_len - g.size);
  pending = filled.pending;
  breakpoints = filled.breakpoints;
  patches = counts.patches;
  state = counts.state;
}

-- ---- a line that its checks may refuse

-- the line's answer and record; a refusal by a check leaves the record as it was
abbrev pub answered : PatchCounts → (position : ℕ) → Result Lined Refusal → Lined
answered counts position (Ok lined) = lined
answered counts position (Err r) = record { answer = refused_at r position; counts = counts }

-- a whole line, which a check may have refused
abbrev pub CheckedLine : Job → LineGiven → (regions pending breakpoints : List ℕ) → PatchCounts → Result Lined Refusal → (regions_after pending_after breakpoints_after : List ℕ) → Type 0
CheckedLine job given regions pending breakpoints counts result regions_after pending_after breakpoints_after =
    let l = answered counts given.position result in LineIs job given regions pending breakpoints counts l.answer l.counts regions_after pending_after breakpoints_after
