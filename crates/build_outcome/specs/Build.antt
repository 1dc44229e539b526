-- A whole build: its answer and every byte of the region list, from a table of labels and three lists (document 01, 'Where the work stops').
-- Assumes nothing.
use Rattle.std.specs.Prelude.{ℕ, zero, suc, ◌+◌, List, [], ◌∷◌, ◌++◌, true, false, eqb, Err, None, Ok, Option, Result, Some}
use Rattle.jobs.specs.declared.Job.{Job}
use Rattle.record.specs.Records.{places}
use Rattle.refusal.specs.Verdicts.{and_then, first_stop, layout_verdict, name_verdict, Verdict}
use Rattle.refusal.specs.declared.Refusal.TheVariants.{UnknownEntry}
use Rattle.labels.specs.Labels.{Table}
use Rattle.regions.specs.Regions.{region_layout, region_count}
use Rattle.address_label.specs.Entries.{entry_layout, entry_of}
use Rattle.address_label.specs.declared.AddressLabel.{AddressLabel}
use Rattle.pending.specs.Pendings.{region_of, pending_layout, pending_at}
use Rattle.patch.specs.Patches.{destination, region_for, name_location, pending_verdict, address_or, write_pending}
use Rattle.refusal.specs.declared.Refusal.{Refusal}

-- ---- patch order: "region by region in rising number, and list order inside a region"

-- the places whose pending is in region r
unfoldable pub keep : List ℕ → ℕ → List ℕ → List ℕ
keep pending r [] = []
keep pending r (p ∷ ps) = elim (eqb (region_of pending p) r) [ true ↦ p ∷ keep pending r ps | false ↦ keep pending r ps ]

-- the places of the pendings in n regions, from region r on
unfoldable pub order_from : ℕ → List ℕ → ℕ → List ℕ
unfolding keep places
order_from zero pending r = []
order_from (suc n) pending r = keep pending r (places pending) ++ order_from n pending (r + 1)

abbrev pub patch_order : List ℕ → List ℕ → List ℕ
patch_order regions pending = order_from (region_count regions) pending 0

-- ---- the checks of the patch at a place: 14, 15, 16

abbrev pub patch_verdict : Job → (labels : Table) (regions pending : List ℕ) → ℕ → Verdict
patch_verdict job labels regions pending at = pending_verdict job labels pending (region_for regions (pending_at pending at)) (pending_at pending at)

-- "14 to 16 patch by patch", in patch order
abbrev pub patches_verdict : Job → (labels : Table) (regions pending : List ℕ) → Verdict
patches_verdict job labels regions pending = first_stop (patch_verdict job labels regions pending) (patch_order regions pending)

-- ---- the entry: 13

abbrev pub reach_entry : AddressLabel → Option ℕ → Verdict
reach_entry label (Some address) = Ok tt
reach_entry label None = Err (UnknownEntry (name_location label))

abbrev pub entry_verdict : Table → List ℕ → Option AddressLabel → Verdict
entry_verdict labels entry None = Ok tt
entry_verdict labels entry (Some label) = reach_entry label (destination labels entry label)

-- "its destination is the build's entry, default 0x00400000"
abbrev pub entry_address : Table → List ℕ → Option AddressLabel → ℕ
entry_address labels entry None = 0x00400000
entry_address labels entry (Some label) = address_or 0 (destination labels entry label)

-- ---- the checks in order: 1 for each buffer, 2, 13, then patch by patch

unfoldable pub layout_verdicts : (labels : Table) (entry regions pending : List ℕ) → Verdict
unfolding entry_layout region_layout pending_layout
layout_verdicts labels entry regions pending =
    and_then (layout_verdict 0 labels.layout)
    (and_then (layout_verdict 1 (entry_layout entry))
    (and_then (layout_verdict 2 (region_layout regions)) (layout_verdict 3 (pending_layout (region_count regions) pending))))

unfoldable pub build_verdict : Job → (labels : Table) (entry regions pending : List ℕ) → Verdict
unfolding layout_verdicts places first_stop pending_verdict order_from
build_verdict job labels entry regions pending =
    and_then (layout_verdicts labels entry regions pending)
    (and_then (name_verdict 0 labels.repeat)
    (and_then (entry_verdict labels entry (entry_of entry (places entry)))
    (patches_verdict job labels regions pending)))

-- ---- the patches written

-- the region list after the patches at these places are written, in order
unfoldable pub write_patches : (labels : Table) (regions pending : List ℕ) → List ℕ → List ℕ → List ℕ
unfolding write_pending
write_patches labels regions pending [] d = d
write_patches labels regions pending (p ∷ ps) d =
    write_patches labels regions pending ps (write_pending labels pending (region_for regions (pending_at pending p)) (pending_at pending p) d)

-- the region list after every patch is written, in patch order
abbrev pub patched_regions : (labels : Table) (regions pending : List ℕ) → List ℕ
patched_regions labels regions pending = write_patches labels regions pending (patch_order regions pending) regions

-- ---- the whole build

pub record BuildOutcome : Type 0 where
  pub answer : Result ℕ Refusal
  pub regions : List ℕ

-- "Lent bytes ... then remain as at entry"
abbrev pub outcome_by : Verdict → ℕ → (patched regions : List ℕ) → BuildOutcome
outcome_by (Ok tt) entry patched regions = record { answer = Ok entry; regions = patched }
outcome_by (Err refusal) entry patched regions = record { answer = Err refusal; regions = regions }

unfoldable pub build_outcome : Job → (labels : Table) (entry regions pending : List ℕ) → BuildOutcome
unfolding build_verdict write_patches places order_from
build_outcome job labels entry regions pending =
    outcome_by (build_verdict job labels entry regions pending) (entry_address labels entry (entry_of entry (places entry)))
    (patched_regions labels regions pending) regions
