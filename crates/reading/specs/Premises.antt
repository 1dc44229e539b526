-- The tender's premises for reading back. Assumes nothing.
use Rattle.std.specs.Prelude.{ℕ, ◌+◌, ◌-◌, ◌/◌, ◌%◌, ◌≤◌, ◌≡◌, List, Ok}
use Rattle.jobs.specs.declared.Job.{Job}
use Rattle.jobs.specs.declared.Job.TheVariants.{Commit}
use Rattle.record.specs.Bytes.{byte_at, le32, le64, part}
use Rattle.record.specs.Records.{body_len}
use Rattle.labels.specs.Labels.{Table}
use Rattle.pending.specs.declared.InstructionLabelKind.TheVariants.{Branch, Jump, Lower, Upper}
use Rattle.pending.specs.Pendings.{pending_at}
use Rattle.patch.specs.Patches.{after}
use Rattle.build_outcome.specs.Build.{build_verdict}
use Rattle.finished_words.specs.Listed.{In, pc_at, destination_at, Apart}

-- "equal form, value and name"
pub record SameTarget (pending : List ℕ) (p q : ℕ) : Type 0 where
  pub form : byte_at pending (p + 19) ≡ byte_at pending (q + 19)
  pub value : le64 pending (p + 20) ≡ le64 pending (q + 20)
  pub name : part pending (p + 36) (body_len pending p - 32) ≡ part pending (q + 36) (body_len pending q - 32)

-- document 02, P6: "a pair's names share a source"
pub record SharedTarget (pending : List ℕ) (p q : ℕ) : Type 0 where
  pub same : SameTarget pending p q
  pub source : le32 pending (p + 28) ≡ le32 pending (q + 28)

-- "A pair is an Upper and, four bytes later in the same region, a Lower with equal form, value and name", anywhere in the list;
-- `Shared` says what the two must share
pub record Pair (Shared : (pending : List ℕ) (p q : ℕ) → Type 0) (pending : List ℕ) (upper lower : ℕ) : Type 0 where
  pub upper_in : In pending upper
  pub lower_in : In pending lower
  pub upper_kind : (pending_at pending upper).kind ≡ Upper
  pub lower_kind : (pending_at pending lower).kind ≡ Lower
  pub region : (pending_at pending lower).region ≡ (pending_at pending upper).region
  pub later : (pending_at pending lower).offset ≡ (pending_at pending upper).offset + 4
  pub target : Shared pending upper lower

-- "branch distances within -32,768 to 32,767 words": for the patch of the record at p
abbrev pub Near : (labels : Table) (regions pending : List ℕ) → ℕ → Type 0
Near labels regions pending p =
    (after (pc_at regions pending p) / 4 ≤ destination_at labels pending p / 4 + 32768)
    × (destination_at labels pending p / 4 ≤ after (pc_at regions pending p) / 4 + 32767)

-- The tender's premises, for a label table, a region list, an entry record and a pending list in any order.
pub record PremisesBy (Shared : (pending : List ℕ) (p q : ℕ) → Type 0) (job : Job) (labels : Table) (entry regions pending : List ℕ) : Type 0 where
  -- "An accepted build is one to which no refusal is due"
  pub accepted : build_verdict job labels entry regions pending ≡ Ok tt
  -- "patch addresses multiples of four": "A patch's address is its pc"
  pub aligned : (p : ℕ) → In pending p → pc_at regions pending p % 4 ≡ 0
  -- "patches not overlapping"
  pub apart : Apart pending
  -- "branch and jump destinations multiples of four"
  pub branch_target : (p : ℕ) → In pending p → (pending_at pending p).kind ≡ Branch → destination_at labels pending p % 4 ≡ 0
  pub jump_target : (p : ℕ) → In pending p → (pending_at pending p).kind ≡ Jump → destination_at labels pending p % 4 ≡ 0
  -- "branch distances within -32,768 to 32,767 words"; document 02, P5: "For manual jobs the reading-back condition needs no premise on
  -- branch distance"
  pub near : job ≡ Commit → (p : ℕ) → In pending p → (pending_at pending p).kind ≡ Branch → Near labels regions pending p
  -- "every half in a pair"
  pub upper_paired : (p : ℕ) → In pending p → (pending_at pending p).kind ≡ Upper → (q : ℕ) × Pair Shared pending p q
  pub lower_paired : (q : ℕ) → In pending q → (pending_at pending q).kind ≡ Lower → (p : ℕ) × Pair Shared pending p q

-- the premises of every build
abbrev pub Premises : (job : Job) (labels : Table) (entry regions pending : List ℕ) → Type 0
Premises = PremisesBy SharedTarget

-- the premises for a label list without owners: document 01's pair, whose names may have any source (document 02, P6: "With kind 34 alone, answers
-- equal the commit's")
abbrev pub StraightPremises : (job : Job) (labels : Table) (entry regions pending : List ℕ) → Type 0
StraightPremises = PremisesBy SameTarget
