-- Demand 3's first half, for whole builds: for any label table, regions, entry record and pending list, in any order.
-- Assumes nothing.
use Rattle.std.specs.Prelude.{◌≡◌, List, ℕ}
use Rattle.std.proofs.Common.{sym, ap, ◌∙◌}
use Rattle.jobs.specs.declared.Job.{Job}
use Rattle.record.specs.Records.{places}
use Rattle.names.specs.Owners.{WithoutOwners}
use Rattle.labels.specs.Labels.{Table, table_of}
use Rattle.address_label.specs.Entries.{entry_of}
use Rattle.build_outcome.specs.Build.{build_outcome, entry_address}
use Rattle.build_outcome.proofs.BuildLaws.{outcome_accepted}
use Rattle.finished_words.specs.Listed.{Bytes, destination_at}
use Rattle.reading.specs.Reading.{image_of, readings, destinations}
use Rattle.reading.specs.Premises.{PremisesBy, Premises, StraightPremises}
use Rattle.reading.specs.Used.{SameUsed}
use Rattle.reading.proofs.ReadBackLaws.{shared_destination, straight_destination, read_back}
use Rattle.reading.proofs.TablesLaws.{same_used}

-- ---- a pair may share anything that gives both of its patches one destination
module _ {Shared : (pending : List ℕ) (p q : ℕ) → Type 0} (job : Job) where
  reads_by : (labels : Table) (entry regions pending : List ℕ) → PremisesBy Shared job labels entry regions pending
      → ((p q : ℕ) → Shared pending p q → destination_at labels pending p ≡ destination_at labels pending q)
      → readings (image_of (build_outcome job labels entry regions pending).regions) pending ≡ destinations labels pending
  reads_by labels entry regions pending pr one =
      ap (λ (r : List ℕ). readings (image_of r) pending) (outcome_accepted job labels entry regions pending pr.accepted).1
      ∙ read_back job labels entry regions pending pr one

  shared_by : (labels₁ labels₂ entry regions pending : List ℕ) → Bytes labels₁ → Bytes labels₂
      → PremisesBy Shared job (table_of labels₁) entry regions pending → PremisesBy Shared job (table_of labels₂) entry regions pending
      → ((p q : ℕ) → Shared pending p q → destination_at (table_of labels₁) pending p ≡ destination_at (table_of labels₁) pending q)
      → ((p q : ℕ) → Shared pending p q → destination_at (table_of labels₂) pending p ≡ destination_at (table_of labels₂) pending q)
      → image_of (build_outcome job (table_of labels₁) entry regions pending).regions ≡ image_of (build_outcome job (table_of labels₂) entry regions pending).regions
      → (build_outcome job (table_of labels₁) entry regions pending).answer ≡ (build_outcome job (table_of labels₂) entry regions pending).answer
      → SameUsed (table_of labels₁) (table_of labels₂) entry pending
  shared_by labels₁ labels₂ entry regions pending b₁ b₂ pr₁ pr₂ one₁ one₂ i a =
      let o₁ = outcome_accepted job (table_of labels₁) entry regions pending pr₁.accepted in
      let o₂ = outcome_accepted job (table_of labels₂) entry regions pending pr₂.accepted in
      let e : entry_address (table_of labels₁) entry (entry_of entry (places entry)) ≡ entry_address (table_of labels₂) entry (entry_of entry (places entry)) = cc in
      same_used job labels₁ labels₂ entry regions pending b₁ b₂ pr₁ pr₂ one₁ one₂ (sym (ap image_of o₁.1) ∙ i ∙ ap image_of o₂.1) e

-- "document 01's MIPS32 reading of each patch in the finished words, by its kind, equals its destination": one claim on the whole list
pub reads_back : (job : Job) (labels : Table) (entry regions pending : List ℕ) → Premises job labels entry regions pending
    → readings (image_of (build_outcome job labels entry regions pending).regions) pending ≡ destinations labels pending
reads_back job labels entry regions pending pr = reads_by job labels entry regions pending pr (shared_destination labels pending)

-- "two label tables that differ in a used address never share an image with its entry"
pub never_shared : (job : Job) (labels₁ labels₂ entry regions pending : List ℕ) → Bytes labels₁ → Bytes labels₂
    → Premises job (table_of labels₁) entry regions pending → Premises job (table_of labels₂) entry regions pending
    → image_of (build_outcome job (table_of labels₁) entry regions pending).regions ≡ image_of (build_outcome job (table_of labels₂) entry regions pending).regions
    → (build_outcome job (table_of labels₁) entry regions pending).answer ≡ (build_outcome job (table_of labels₂) entry regions pending).answer
    → SameUsed (table_of labels₁) (table_of labels₂) entry pending
never_shared job labels₁ labels₂ entry regions pending b₁ b₂ pr₁ pr₂ =
    shared_by job labels₁ labels₂ entry regions pending b₁ b₂ pr₁ pr₂ (shared_destination (table_of labels₁) pending) (shared_destination (table_of labels₂) pending)

-- The same as the tender says it: tables that differ in a used address cannot share both the image and the entry.
pub differing_apart : (job : Job) (labels₁ labels₂ entry regions pending : List ℕ) → Bytes labels₁ → Bytes labels₂
    → Premises job (table_of labels₁) entry regions pending → Premises job (table_of labels₂) entry regions pending → (SameUsed (table_of labels₁) (table_of labels₂) entry pending → ⊥)
    → image_of (build_outcome job (table_of labels₁) entry regions pending).regions ≡ image_of (build_outcome job (table_of labels₂) entry regions pending).regions
    → (build_outcome job (table_of labels₁) entry regions pending).answer ≡ (build_outcome job (table_of labels₂) entry regions pending).answer → ⊥
differing_apart job labels₁ labels₂ entry regions pending b₁ b₂ pr₁ pr₂ differ i a = differ (never_shared job labels₁ labels₂ entry regions pending b₁ b₂ pr₁ pr₂ i a)

-- ---- "With kind 34 alone, answers equal the commit's" (document 02, P6): without owners a pair is document 01's, and its names may differ in source
pub straight_reads_back : (job : Job) (labels entry regions pending : List ℕ) → WithoutOwners labels → StraightPremises job (table_of labels) entry regions pending
    → readings (image_of (build_outcome job (table_of labels) entry regions pending).regions) pending ≡ destinations (table_of labels) pending
straight_reads_back job labels entry regions pending w pr = reads_by job (table_of labels) entry regions pending pr (straight_destination labels w pending)

pub straight_apart : (job : Job) (labels₁ labels₂ entry regions pending : List ℕ) → Bytes labels₁ → Bytes labels₂ → WithoutOwners labels₁ → WithoutOwners labels₂
    → StraightPremises job (table_of labels₁) entry regions pending → StraightPremises job (table_of labels₂) entry regions pending → (SameUsed (table_of labels₁) (table_of labels₂) entry pending → ⊥)
    → image_of (build_outcome job (table_of labels₁) entry regions pending).regions ≡ image_of (build_outcome job (table_of labels₂) entry regions pending).regions
    → (build_outcome job (table_of labels₁) entry regions pending).answer ≡ (build_outcome job (table_of labels₂) entry regions pending).answer → ⊥
straight_apart job labels₁ labels₂ entry regions pending b₁ b₂ w₁ w₂ pr₁ pr₂ differ i a =
    differ (shared_by job labels₁ labels₂ entry regions pending b₁ b₂ pr₁ pr₂ (straight_destination labels₁ w₁ pending) (straight_destination labels₂ w₂ pending) i a)
