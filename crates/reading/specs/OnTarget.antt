-- Which branches and jumps are on target, patch by patch: what the tender asks of their destinations and distances. Assumes nothing.
use Rattle.std.specs.Prelude.{ℕ, ◌%◌, ◌≡◌, List, Some}
use Rattle.jobs.specs.declared.Job.{Job}
use Rattle.jobs.specs.declared.Job.TheVariants.{Commit}
use Rattle.labels.specs.Labels.{Table}
use Rattle.pending.specs.declared.InstructionLabelKind.{InstructionLabelKind}
use Rattle.pending.specs.declared.InstructionLabelKind.TheVariants.{Branch, Jump, Lower, Upper, Full}
use Rattle.pending.specs.Pendings.{pending_at}
use Rattle.patch.specs.Patches.{destination}
use Rattle.build_outcome.specs.Build.{build_outcome}
use Rattle.finished_words.specs.Listed.{destination_at}
use Rattle.reading.specs.Reading.{image_of, reading}
use Rattle.reading.specs.Premises.{Near}

-- the patch is a branch's or a jump's; the other kinds are halves of an address, or whole words
abbrev pub Going : InstructionLabelKind → Type 0
Going Branch = Unit {0}
Going Jump = Unit {0}
Going Lower = ⊥
Going Upper = ⊥
Going Full = ⊥

-- "branch and jump destinations multiples of four, branch distances within -32,768 to 32,767 words"; document 02, P5: "For manual jobs the
-- reading-back condition needs no premise on branch distance"
pub record OnTarget (job : Job) (labels : Table) (regions pending : List ℕ) (p : ℕ) : Type 0 where
  pub on_word_lem : destination_at labels pending p % 4 ≡ 0
  pub near : job ≡ Commit → (pending_at pending p).kind ≡ Branch → Near labels regions pending p

-- "document 01's MIPS32 reading of each patch in the finished words, by its kind, equals its destination": for the patch of the record at p
abbrev pub ReadsBack : Job → (labels : Table) (entry regions pending : List ℕ) → ℕ → Type 0
ReadsBack job labels entry regions pending p =
    Some (reading (image_of (build_outcome job labels entry regions pending).regions) (pending_at pending p)) ≡ destination labels pending (pending_at pending p).label
