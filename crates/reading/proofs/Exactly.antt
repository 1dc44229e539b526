-- Which branches and jumps of an accepted build read back: exactly those on target. Assumes nothing.
use Rattle.std.specs.Prelude.{ℕ, ◌%◌, ◌≡◌, refl, List, Ok, Some}
use Rattle.std.proofs.Common.{sym, ap, ◌∙◌}
use Rattle.jobs.specs.declared.Job.{Job}
use Rattle.labels.specs.Labels.{Table}
use Rattle.pending.specs.declared.InstructionLabelKind.{InstructionLabelKind}
use Rattle.pending.specs.declared.InstructionLabelKind.TheVariants.{Branch, Jump, Lower, Upper, Full}
use Rattle.pending.specs.Pendings.{pending_at}
use Rattle.patch.specs.Patches.{address_or}
use Rattle.build_outcome.specs.Build.{build_verdict}
use Rattle.build_outcome.proofs.BuildLaws.{outcome_accepted}
use Rattle.finished_words.specs.Listed.{In, Apart, pc_at}
use Rattle.reading.specs.Reading.{image_of, reading}
use Rattle.reading.specs.OnTarget.{Going, OnTarget, ReadsBack}
use Rattle.reading.proofs.ReadBackLaws.{Readable, each_back}
use Rattle.reading.proofs.ExactlyLaws.{reading_on}

module _ (job : Job) (labels : Table) (entry regions pending : List ℕ) (pass : build_verdict job labels entry regions pending ≡ Ok tt) (apart : Apart pending) where
  -- A patch that has what its kind asks reads back, wherever the others go.
  pub patch_reads : (p : ℕ) → In pending p → Readable job labels regions pending (pending_at pending p).kind p → ReadsBack job labels entry regions pending p
  patch_reads p m r =
      ap (λ (s : List ℕ). Some (reading (image_of s) (pending_at pending p))) (outcome_accepted job labels entry regions pending pass).1
      ∙ each_back job labels entry regions pending pass apart p m r

  readable : (kind : InstructionLabelKind) (p : ℕ) → Going kind → pc_at regions pending p % 4 ≡ 0 → OnTarget job labels regions pending p → Readable job labels regions pending kind p
  readable Branch p g a t = (a, t)
  readable Jump p g a t = t
  readable Lower p g a t = absurd g
  readable Upper p g a t = absurd g
  readable Full p g a t = absurd g

  -- A branch or a jump at a multiple of four reads back if and only if it is on target.
  pub exactly : (p : ℕ) → In pending p → Going (pending_at pending p).kind → pc_at regions pending p % 4 ≡ 0
      → (OnTarget job labels regions pending p → ReadsBack job labels entry regions pending p) × (ReadsBack job labels entry regions pending p → OnTarget job labels regions pending p)
  exactly p m g a = (λ t. patch_reads p m (readable (pending_at pending p).kind p g a t), only)
    where
      only : ReadsBack job labels entry regions pending p → OnTarget job labels regions pending p
      only h =
          reading_on job labels entry regions pending pass apart (pending_at pending p).kind p m a refl g
          (ap (address_or 0)
          (sym (ap (λ (s : List ℕ). Some (reading (image_of s) (pending_at pending p))) (outcome_accepted job labels entry regions pending pass).1) ∙ h))
