-- The premises of the theorems can be met: four tables that meet them, and what the theorems say there. Assumes nothing.
use Rattle.std.specs.Prelude.{ℕ, ◌+◌, ◌/◌, ◌%◌, ◌≤◌, List, [], ◌∷◌, true, ◌&&◌, ◌≡◌, refl, take, eqb, Ok, Option, Some}
use Rattle.std.proofs.Common.{arith, sym, ap, ◌∙◌, leb-true, eqb-true}
use mathlib.Core.List.Memᴰ
use Rattle.std.proofs.Math.Bool.{and-eq-true_iff}
use Rattle.jobs.specs.declared.Job.{Job}
use Rattle.jobs.specs.declared.Job.TheVariants.{Commit}
use Rattle.record.specs.Records.{places}
use Rattle.labels.specs.Labels.{resolve, table_of}
use Rattle.pending.specs.declared.InstructionLabelKind.{InstructionLabelKind}
use Rattle.pending.specs.declared.InstructionLabelKind.TheVariants.{Branch, Jump, Lower, Upper}
use Rattle.pending.specs.Pendings.{kind_from, pending_at}
use Rattle.patch.specs.Patches.{after}
use Rattle.build_outcome.specs.Build.{patch_order, build_verdict, write_patches, BuildOutcome, build_outcome}
use Rattle.reading.specs.Reading.{image_of, readings, destinations}
use Rattle.finished_words.specs.Listed.{In, pc_at, destination_at}
use Rattle.finished_words.specs.InstanceTables.{loop, main, labels₁, labels₂, labels₃, labels₄, entry, regions, pending, example_regions, example_pending, example_finished}
use Rattle.finished_words.proofs.ListedLaws.{of_bytes}
use Rattle.finished_words.proofs.Instance.{each, apart}
use Rattle.reading.specs.Premises.{SharedTarget, Pair, Premises}
use Rattle.reading.specs.Used.{SameUsed}
use Rattle.reading.proofs.Demand.{reads_back, never_shared, differing_apart}
use Rattle.reading.proofs.InstanceLaws.{on_word, not_far_back, not_far_on, fits, in_each, outcome, started_elsewhere, Computed, evaluated}

-- ---- the premises
pair : Pair SharedTarget pending 116 0
unfolding pending kind_from
pair =
    record {
      upper_in = rw evaluated.places_are (Memᴰ.tail (Memᴰ.tail (Memᴰ.tail (Memᴰ.head refl))));
      lower_in = rw evaluated.places_are (Memᴰ.head refl);
      upper_kind = refl;
      lower_kind = refl;
      region = refl;
      later = refl;
      target = record { same = record { form = refl; value = refl; name = refl }; source = refl };
    }

module _ (job : Job) (labels : List ℕ) (computed : Computed labels) where
  fitting : (kind : InstructionLabelKind) (p : ℕ) → In pending p → (pending_at pending p).kind ≡ kind → fits (table_of labels) kind p ≡ true
  fitting kind p m e = rw e at (each (λ (p : ℕ). fits (table_of labels) (pending_at pending p).kind p) (places pending) computed.fit p m)

  branching : (p : ℕ) → In pending p → (pending_at pending p).kind ≡ Branch
      → (on_word (table_of labels) p ≡ true) × ((not_far_back (table_of labels) p ≡ true) × (not_far_on (table_of labels) p ≡ true))
  branching p m e =
      let b = (and-eq-true_iff (on_word (table_of labels) p) (not_far_back (table_of labels) p && not_far_on (table_of labels) p)).0 (fitting Branch p m e) in
      (b.0, (and-eq-true_iff (not_far_back (table_of labels) p) (not_far_on (table_of labels) p)).0 b.1)

  on_word_lem : (p : ℕ) → on_word (table_of labels) p ≡ true → destination_at (table_of labels) pending p % 4 ≡ 0
  on_word_lem p e = eqb-true (destination_at (table_of labels) pending p % 4) 0 e

  far_back : (p : ℕ) → not_far_back (table_of labels) p ≡ true → after (pc_at regions pending p) / 4 ≤ destination_at (table_of labels) pending p / 4 + 32768
  far_back p e = leb-true (after (pc_at regions pending p) / 4) (destination_at (table_of labels) pending p / 4 + 32768) e

  far_on : (p : ℕ) → not_far_on (table_of labels) p ≡ true → destination_at (table_of labels) pending p / 4 ≤ after (pc_at regions pending p) / 4 + 32767
  far_on p e = leb-true (destination_at (table_of labels) pending p / 4) (after (pc_at regions pending p) / 4 + 32767) e

  premises : Premises job (table_of labels) entry regions pending
  premises =
      record {
        accepted = in_each (λ job. build_verdict job (table_of labels) entry regions pending ≡ Ok tt) computed.accepted job;
        aligned = λ p m. eqb-true (pc_at regions pending p % 4) 0 (each (λ (p : ℕ). eqb (pc_at regions pending p % 4) 0) (places pending) evaluated.aligned p m);
        apart = apart;
        branch_target = λ p m e. on_word_lem p (branching p m e).0;
        jump_target = λ p m e. on_word_lem p (fitting Jump p m e);
        near = λ commit p m e. (omega (arith, far_back p (branching p m e).1.0), omega (arith, far_on p (branching p m e).1.1));
        upper_paired = λ p m e. (0, rw (eqb-true p 116 (fitting Upper p m e)) pair);
        lower_paired = λ p m e. (116, rw (eqb-true p 0 (fitting Lower p m e)) pair);
      }

-- ---- the theorems on the instance
pub instance₁ : (job : Job) → Premises job (table_of labels₁) entry regions pending
instance₁ job = premises job labels₁ evaluated.first

pub instance₂ : (job : Job) → Premises job (table_of labels₂) entry regions pending
instance₂ job = premises job labels₂ evaluated.second

pub instance₃ : (job : Job) → Premises job (table_of labels₃) entry regions pending
instance₃ job = premises job labels₃ evaluated.third

pub instance₄ : (job : Job) → Premises job (table_of labels₄) entry regions pending
instance₄ job = premises job labels₄ evaluated.fourth

-- the seven readings, in list order
pub instance_reads : (job : Job) → readings (image_of (build_outcome job (table_of labels₁) entry regions pending).regions) pending ≡ destinations (table_of labels₁) pending
instance_reads job = reads_back job (table_of labels₁) entry regions pending (instance₁ job)

pub instance_numbers : destinations (table_of labels₁) pending
    ≡ Some 0x0040C008 ∷ Some 0x00400008 ∷ Some 0x12345678 ∷ Some 0x0040C008 ∷ Some 0x0040000C ∷ Some 0x003E0010 ∷ Some 0x00420010 ∷ []
instance_numbers = evaluated.destined

-- ---- other builds, which do not read back here
fails : (r : List ℕ) (a : ℕ) (rest : List (Option ℕ)) → readings (image_of r) pending ≡ Some a ∷ rest → (a ≡ 0x0040C008 → ⊥)
    → readings (image_of r) pending ≡ destinations (table_of labels₁) pending → ⊥
fails r a rest c n e =
    let d = instance_numbers in
    let z : a ≡ 0x0040C008 = cc in
    n z

-- A build that hands the regions back unpatched.
pub unpatched_fails : readings (image_of regions) pending ≡ destinations (table_of labels₁) pending → ⊥
unpatched_fails e = fails regions _ _ evaluated.unpatched (λ z. omega arith) e

-- A build that patches only one record: the first in patch order, or the first of the list.
pub first_only_fails : readings (image_of (write_patches (table_of labels₁) regions pending (take 1 (patch_order regions pending)) regions)) pending ≡ destinations (table_of labels₁) pending → ⊥
first_only_fails e = fails (write_patches (table_of labels₁) regions pending (take 1 (patch_order regions pending)) regions) _ _ evaluated.first_only (λ z. omega arith) e

pub first_listed_only_fails : readings (image_of (write_patches (table_of labels₁) regions pending (take 1 (places pending)) regions)) pending ≡ destinations (table_of labels₁) pending → ⊥
first_listed_only_fails e = fails (write_patches (table_of labels₁) regions pending (take 1 (places pending)) regions) _ _ evaluated.first_listed_only (λ z. omega arith) e

-- ---- the first two tables differ, share an image with its entry, and agree on the used address
same_outcome : (job : Job) → build_outcome job (table_of labels₁) entry regions pending ≡ build_outcome job (table_of labels₂) entry regions pending
same_outcome job =
    in_each (λ job. build_outcome job (table_of labels₁) entry regions pending ≡ outcome) evaluated.first_outcome job
    ∙ sym (in_each (λ job. build_outcome job (table_of labels₂) entry regions pending ≡ outcome) evaluated.second_outcome job)

pub tables_differ : (resolve labels₁ 3 loop ≡ Some 0x00001000) × (resolve labels₂ 3 loop ≡ Some 0x00002000)
tables_differ = evaluated.for_all_addresses

pub instance_used : (job : Job) → SameUsed (table_of labels₁) (table_of labels₂) entry pending
instance_used job =
    never_shared job labels₁ labels₂ entry regions pending (of_bytes labels₁ evaluated.first.bytes_fit) (of_bytes labels₂ evaluated.second.bytes_fit) (instance₁ job) (instance₂ job)
    (ap (λ (o : BuildOutcome). image_of o.regions) (same_outcome job)) (ap (λ (o : BuildOutcome). o.answer) (same_outcome job))

-- ---- the first and the third differ in a used address, so they do not share both an image and its entry
pub used_differs : (resolve labels₁ 1 loop ≡ Some 0x00400008) × (resolve labels₃ 1 loop ≡ Some 0x0040000C)
used_differs = evaluated.first_file_addresses

not_same_used : SameUsed (table_of labels₁) (table_of labels₃) entry pending → ⊥
not_same_used u =
    let m : In pending 40 = rw evaluated.places_are (Memᴰ.tail (Memᴰ.head refl)) in
    let s : resolve labels₁ 1 loop ≡ resolve labels₃ 1 loop = rw (evaluated.loop_named.1.0, evaluated.loop_named.1.1) at (u.by_pending 40 m (λ z. omega (arith, evaluated.loop_named.0))) in
    let r = used_differs in
    let z : ◌≡◌ {A = ℕ} 0x00400008 0x0040000C = cc in
    omega arith

pub instance_apart : (job : Job) → image_of (build_outcome job (table_of labels₁) entry regions pending).regions ≡ image_of (build_outcome job (table_of labels₃) entry regions pending).regions
    → (build_outcome job (table_of labels₁) entry regions pending).answer ≡ (build_outcome job (table_of labels₃) entry regions pending).answer → ⊥
instance_apart job =
    differing_apart job labels₁ labels₃ entry regions pending (of_bytes labels₁ evaluated.first.bytes_fit) (of_bytes labels₃ evaluated.third.bytes_fit) (instance₁ job) (instance₃ job) not_same_used

-- ---- the first and the fourth differ only in the entry's label: they share the image, so they differ in the entry
pub entry_differs : (resolve labels₁ 1 main ≡ Some 0x00400004) × (resolve labels₄ 1 main ≡ Some 0x0040000C)
entry_differs = evaluated.entry_addresses

pub same_image : (job : Job) → (build_outcome job (table_of labels₁) entry regions pending).regions ≡ (build_outcome job (table_of labels₄) entry regions pending).regions
same_image job =
    ap (λ (o : BuildOutcome). o.regions) (in_each (λ job. build_outcome job (table_of labels₁) entry regions pending ≡ outcome) evaluated.first_outcome job)
    ∙ sym (ap (λ (o : BuildOutcome). o.regions) (in_each (λ job. build_outcome job (table_of labels₄) entry regions pending ≡ started_elsewhere) evaluated.fourth_outcome job))

not_same_entry : SameUsed (table_of labels₁) (table_of labels₄) entry pending → ⊥
not_same_entry u =
    let m : In entry 0 = rw evaluated.entry_places (Memᴰ.head refl) in
    let s : resolve labels₁ 1 main ≡ resolve labels₄ 1 main = rw (evaluated.main_named.1.0, evaluated.main_named.1.1) at (u.by_entry 0 m (λ z. omega (arith, evaluated.main_named.0))) in
    let r = entry_differs in
    let z : ◌≡◌ {A = ℕ} 0x00400004 0x0040000C = cc in
    omega arith

pub entries_apart : (job : Job) → (build_outcome job (table_of labels₁) entry regions pending).answer ≡ (build_outcome job (table_of labels₄) entry regions pending).answer → ⊥
entries_apart job =
    differing_apart job labels₁ labels₄ entry regions pending (of_bytes labels₁ evaluated.first.bytes_fit) (of_bytes labels₄ evaluated.fourth.bytes_fit) (instance₁ job) (instance₄ job) not_same_entry
    (ap image_of (same_image job))

-- document 01's example of a build
pub example : build_outcome Commit (table_of []) [] example_regions example_pending ≡ record { answer = Ok 0x00400000; regions = example_finished }
example = evaluated.example
