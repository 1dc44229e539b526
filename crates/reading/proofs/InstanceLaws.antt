-- What can be computed on the instance's lists: its builds, its destinations, and the premises as tests. Assumes nothing.
use Rattle.std.specs.Prelude.{ℕ, ◌+◌, ◌/◌, ◌%◌, List, [], ◌∷◌, Bool, true, ◌&&◌, ◌≡◌, refl, take, leb, ltb, eqb, Ok, Some}
use Rattle.jobs.specs.declared.Job.{Job}
use Rattle.jobs.specs.declared.Job.TheVariants.{Commit, Manual, Release6}
use Rattle.field.specs.Field.{set_field}
use Rattle.record.specs.Bytes.{byte_at, all, same_bytes}
use Rattle.record.specs.Records.{places_f, places_from, places, first_bad, first_bad_of, within_limit}
use Rattle.refusal.specs.Verdicts.{first_stop}
use Rattle.names.specs.Names.{first_where, first_later}
use Rattle.labels.specs.Labels.{label_ok, label_layout, resolve, Table, table_of}
use Rattle.regions.specs.Regions.{region_ok, region_records, region_layout}
use Rattle.address_label.specs.AddressLabels.{address_label_ok}
use Rattle.address_label.specs.Entries.{entry_ok, entry_layout}
use Rattle.pending.specs.declared.InstructionLabelKind.{InstructionLabelKind}
use Rattle.pending.specs.declared.InstructionLabelKind.TheVariants.{Branch, Jump, Lower, Upper, Full}
use Rattle.pending.specs.Pendings.{pending_ok, pending_layout, kind_from, pending_at}
use Rattle.record.specs.Stores.{append}
use Rattle.patch.specs.Patches.{after, destination, field_width, field_value, branch_in_range, jump_in_range, in_range, pending_verdict, reach_verdict, write_pending}
use Rattle.build_outcome.specs.Build.{keep, order_from, patch_order, layout_verdicts, build_verdict, write_patches, BuildOutcome, build_outcome}
use Rattle.finished_words.specs.Listed.{pc_at, destination_at}
use Rattle.reading.specs.Used.{pending_name, pending_source, entry_name, entry_source}
use Rattle.reading.specs.Reading.{image_of, signed_bytes, read_by, readings, destinations}
use Rattle.finished_words.specs.InstanceTables.{loop, main, labels₁, labels₂, labels₃, labels₄, entry, regions, pending, finished, example_regions, example_pending, example_finished}

-- ---- a premise at one place, as a test
abbrev pub on_word : Table → ℕ → Bool
on_word labels p = eqb (destination_at labels pending p % 4) 0

abbrev pub not_far_back : Table → ℕ → Bool
not_far_back labels p = leb (after (pc_at regions pending p) / 4) (destination_at labels pending p / 4 + 32768)

abbrev pub not_far_on : Table → ℕ → Bool
not_far_on labels p = leb (destination_at labels pending p / 4) (after (pc_at regions pending p) / 4 + 32767)

-- The only Lower stands at 0, the only Upper at 116.
abbrev pub fits : Table → InstructionLabelKind → ℕ → Bool
fits labels Branch p = on_word labels p && (not_far_back labels p && not_far_on labels p)
fits labels Jump p = on_word labels p
fits labels Lower p = eqb p 0
fits labels Upper p = eqb p 116
fits labels Full p = true

-- ---- by computation

-- Holds in each sort of job.
abbrev pub InAll : (Job → Type 0) → Type 0
InAll P = P Commit × P Manual × P Release6

pub in_each : (P : Job → Type 0) → InAll P → (job : Job) → P job
in_each P b Commit = b.0
in_each P b Manual = b.1
in_each P b Release6 = b.2

-- A label table: its build is accepted, and the tests hold.
pub record Computed (labels : List ℕ) : Type 0 where
  pub accepted : InAll (λ job. build_verdict job (table_of labels) entry regions pending ≡ Ok tt)
  pub fit : all (λ (p : ℕ). fits (table_of labels) (pending_at pending p).kind p) (places pending) ≡ true
  pub bytes_fit : all (λ (b : ℕ). ltb b 256) labels ≡ true

-- What the builds of the first two tables leave, and what the fourth's leaves.
abbrev pub outcome : BuildOutcome
outcome = record { answer = Ok 0x00400004; regions = finished }

abbrev pub started_elsewhere : BuildOutcome
started_elsewhere = record { answer = Ok 0x0040000C; regions = finished }

-- The tables and the other lists. The last readings are of the regions unpatched, with only the first patch in patch order, and with only the
-- first patch of the list.
pub record Evaluated : Type 0 where
  pub first : Computed labels₁
  pub second : Computed labels₂
  pub third : Computed labels₃
  pub fourth : Computed labels₄
  pub first_outcome : InAll (λ job. build_outcome job (table_of labels₁) entry regions pending ≡ outcome)
  pub second_outcome : InAll (λ job. build_outcome job (table_of labels₂) entry regions pending ≡ outcome)
  pub fourth_outcome : InAll (λ job. build_outcome job (table_of labels₄) entry regions pending ≡ started_elsewhere)
  pub destined : destinations (table_of labels₁) pending ≡ Some 0x0040C008 ∷ Some 0x00400008 ∷ Some 0x12345678 ∷ Some 0x0040C008 ∷ Some 0x0040000C ∷ Some 0x003E0010 ∷ Some 0x00420010 ∷ []
  pub entry_places : places entry ≡ 0 ∷ []
  pub places_are : places pending ≡ 0 ∷ 40 ∷ 80 ∷ 116 ∷ 156 ∷ 196 ∷ 232 ∷ []
  pub aligned : all (λ (p : ℕ). eqb (pc_at regions pending p % 4) 0) (places pending) ≡ true
  pub for_all_addresses : (resolve labels₁ 3 loop ≡ Some 0x00001000) × (resolve labels₂ 3 loop ≡ Some 0x00002000)
  pub first_file_addresses : (resolve labels₁ 1 loop ≡ Some 0x00400008) × (resolve labels₃ 1 loop ≡ Some 0x0040000C)
  pub entry_addresses : (resolve labels₁ 1 main ≡ Some 0x00400004) × (resolve labels₄ 1 main ≡ Some 0x0040000C)
  pub loop_named : (byte_at pending 59 ≡ 1) × ((pending_source pending 40 ≡ 1) × (pending_name pending 40 ≡ loop))
  pub main_named : (byte_at entry 4 ≡ 1) × ((entry_source entry 0 ≡ 1) × (entry_name entry 0 ≡ main))
  pub unpatched : readings (image_of regions) pending ≡ Some 0x00000000 ∷ Some 0x00400004 ∷ Some 0x00000000 ∷ Some 0x00000000 ∷ Some 0x00000000 ∷ Some 0x00400010 ∷ Some 0x00400014 ∷ []
  pub first_only : readings (image_of (write_patches (table_of labels₁) regions pending (take 1 (patch_order regions pending)) regions)) pending
      ≡ Some 0x00000000 ∷ Some 0x00400008 ∷ Some 0x00000000 ∷ Some 0x00000000 ∷ Some 0x00000000 ∷ Some 0x00400010 ∷ Some 0x00400014 ∷ []
  pub first_listed_only : readings (image_of (write_patches (table_of labels₁) regions pending (take 1 (places pending)) regions)) pending
      ≡ Some 0x0000C008 ∷ Some 0x00400004 ∷ Some 0x00000000 ∷ Some 0x0000C008 ∷ Some 0x00000000 ∷ Some 0x00400010 ∷ Some 0x00400014 ∷ []
  pub example : build_outcome Commit (table_of []) [] example_regions example_pending ≡ record { answer = Ok 0x00400000; regions = example_finished }

pub evaluated : Evaluated
unfolding labels₁ labels₂ labels₃ labels₄ entry regions pending finished example_regions example_pending example_finished destinations readings image_of read_by signed_bytes build_outcome build_verdict layout_verdicts write_patches write_pending pending_verdict reach_verdict order_from keep append in_range jump_in_range branch_in_range field_value field_width destination kind_from pending_layout pending_ok entry_layout entry_ok address_label_ok region_layout region_records region_ok resolve label_layout label_ok first_later first_where first_stop within_limit first_bad_of first_bad places places_from places_f all same_bytes set_field
evaluated =
    record {
      first = record { accepted = (refl, refl, refl); fit = refl; bytes_fit = refl };
      second = record { accepted = (refl, refl, refl); fit = refl; bytes_fit = refl };
      third = record { accepted = (refl, refl, refl); fit = refl; bytes_fit = refl };
      fourth = record { accepted = (refl, refl, refl); fit = refl; bytes_fit = refl };
      first_outcome = (refl, refl, refl);
      second_outcome = (refl, refl, refl);
      fourth_outcome = (refl, refl, refl);
      destined = refl;
      entry_places = refl;
      places_are = refl;
      aligned = refl;
      for_all_addresses = (refl, refl);
      first_file_addresses = (refl, refl);
      entry_addresses = (refl, refl);
      loop_named = (refl, (refl, refl));
      main_named = (refl, (refl, refl));
      unpatched = refl;
      first_only = refl;
      first_listed_only = refl;
      example = refl;
    }
