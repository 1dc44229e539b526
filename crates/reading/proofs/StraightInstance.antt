-- Without owners, a pair whose names have two sources meets the premises, and it reads back. Assumes nothing.
use Rattle.std.specs.Prelude.{ℕ, ◌+◌, ◌%◌, ◌≤◌, [], ◌∷◌, ◌⊎◌, ◌≡◌, refl, Ok, Some}
use Rattle.std.proofs.Common.{arith, ⊎_elim, inl, inr, sym, subst, ◌∙◌}
use mathlib.Core.List.Memᴰ
use Rattle.jobs.specs.declared.Job.{Job}
use Rattle.record.specs.Bytes.{le32, all, same_bytes}
use Rattle.record.specs.Records.{places_f, places_from, places, first_bad, first_bad_of, within_limit}
use Rattle.refusal.specs.Verdicts.{first_stop}
use Rattle.names.specs.Names.{first_where, first_later}
use Rattle.names.specs.Owners.{WithoutOwners}
use Rattle.labels.specs.Labels.{label_ok, label_layout, resolve, table_of}
use Rattle.regions.specs.Regions.{region_ok, region_records, region_layout}
use Rattle.address_label.specs.AddressLabels.{address_label_ok}
use Rattle.address_label.specs.Entries.{entry_ok, entry_layout}
use Rattle.pending.specs.declared.InstructionLabelKind.TheVariants.{Branch, Jump, Lower, Upper}
use Rattle.pending.specs.Pendings.{pending_ok, pending_layout, kind_from, pending_at}
use Rattle.patch.specs.Patches.{destination, in_range, pending_verdict, reach_verdict}
use Rattle.build_outcome.specs.Build.{keep, order_from, layout_verdicts, build_verdict, build_outcome}
use Rattle.finished_words.specs.Listed.{In, pc_at, Apart}
use Rattle.finished_words.specs.InstanceTables.{straight_labels, straight_regions, straight_pending}
use Rattle.reading.specs.Reading.{image_of, readings, destinations}
use Rattle.reading.specs.Premises.{SameTarget, Pair, StraightPremises}
use Rattle.reading.proofs.Demand.{straight_reads_back}
use Rattle.reading.proofs.InstanceLaws.{InAll, in_each}
use Rattle.name_order.proofs.OrderLaws.{never}

-- ---- by computation
record Evaluated : Type 0 where
  accepted : InAll (λ job. build_verdict job (table_of straight_labels) [] straight_regions straight_pending ≡ Ok tt)
  without : WithoutOwners straight_labels
  places_are : places straight_pending ≡ 0 ∷ 40 ∷ []
  aligned : (pc_at straight_regions straight_pending 0 % 4 ≡ 0) × (pc_at straight_regions straight_pending 40 % 4 ≡ 0)
  kinds : ((pending_at straight_pending 0).kind ≡ Lower) × ((pending_at straight_pending 40).kind ≡ Upper)
  target : SameTarget straight_pending 40 0
  sources : (le32 straight_pending 68 ≡ 1) × (le32 straight_pending 28 ≡ 2)
  destined : destinations (table_of straight_labels) straight_pending ≡ Some 0x0040C008 ∷ Some 0x0040C008 ∷ []

evaluated : Evaluated
unfolding straight_labels straight_regions straight_pending destinations build_verdict layout_verdicts pending_verdict reach_verdict order_from keep in_range destination kind_from pending_layout pending_ok entry_layout entry_ok address_label_ok region_layout region_records region_ok resolve label_layout label_ok first_later first_where first_stop within_limit first_bad_of first_bad places places_from places_f all same_bytes
evaluated =
    record {
      accepted = (refl, refl, refl);
      without = refl;
      places_are = refl;
      aligned = (refl, refl);
      kinds = (refl, refl);
      target = record { form = refl; value = refl; name = refl };
      sources = (refl, refl);
      destined = refl;
    }

-- ---- the premises

-- A claim on both records holds at each place of the list.
both : (P : ℕ → Type 0) → P 0 → P 40 → (p : ℕ) → In straight_pending p → P p
both P a b p m =
    ⊎_elim
    (λ e. subst P (sym e) a)
    (λ n. ⊎_elim (λ e. subst P (sym e) b) (λ t. absurd (Memᴰ.not-nil t)) (Memᴰ.cases_cons n))
    (Memᴰ.cases_cons (rw evaluated.places_are at m))

pair : Pair SameTarget straight_pending 40 0
unfolding straight_pending
pair =
    record {
      upper_in = rw evaluated.places_are (Memᴰ.tail (Memᴰ.head refl));
      lower_in = rw evaluated.places_are (Memᴰ.head refl);
      upper_kind = evaluated.kinds.1;
      lower_kind = evaluated.kinds.0;
      region = refl;
      later = refl;
      target = evaluated.target;
    }

abbrev Away : (p q : ℕ) → Type 0
Away p q =
    (p ≡ q → ⊥) → (pending_at straight_pending p).region ≡ (pending_at straight_pending q).region
    → ((pending_at straight_pending p).offset + 4 ≤ (pending_at straight_pending q).offset) ⊎ ((pending_at straight_pending q).offset + 4 ≤ (pending_at straight_pending p).offset)

away : Apart straight_pending
unfolding straight_pending
away p q m n =
    both (λ p. Away p q)
    (both (λ q. Away 0 q) (λ d r. absurd (d refl)) (λ d r. inr (omega arith)) q n)
    (both (λ q. Away 40 q) (λ d r. inl (omega arith)) (λ d r. absurd (d refl)) q n) p m

-- neither is a branch or a jump
no_branch : (p : ℕ) → In straight_pending p → (pending_at straight_pending p).kind ≡ Branch → ⊥
no_branch = let k = evaluated.kinds in both (λ p. (pending_at straight_pending p).kind ≡ Branch → ⊥) (λ e. never (cc)) (λ e. never (cc))

no_jump : (p : ℕ) → In straight_pending p → (pending_at straight_pending p).kind ≡ Jump → ⊥
no_jump = let k = evaluated.kinds in both (λ p. (pending_at straight_pending p).kind ≡ Jump → ⊥) (λ e. never (cc)) (λ e. never (cc))

pub straight_instance : (job : Job) → StraightPremises job (table_of straight_labels) [] straight_regions straight_pending
straight_instance job =
    let k = evaluated.kinds.0 in
    let l = evaluated.kinds.1 in
    record {
      accepted = in_each (λ job. build_verdict job (table_of straight_labels) [] straight_regions straight_pending ≡ Ok tt) evaluated.accepted job;
      aligned = both (λ p. pc_at straight_regions straight_pending p % 4 ≡ 0) evaluated.aligned.0 evaluated.aligned.1;
      apart = away;
      branch_target = λ p m e. absurd (no_branch p m e);
      jump_target = λ p m e. absurd (no_jump p m e);
      near = λ commit p m e. absurd (no_branch p m e);
      upper_paired = both (λ p. (pending_at straight_pending p).kind ≡ Upper → (q : ℕ) × Pair SameTarget straight_pending p q) (λ e. never (cc)) (λ e. (0, pair));
      lower_paired = both (λ q. (pending_at straight_pending q).kind ≡ Lower → (p : ℕ) × Pair SameTarget straight_pending p q) (λ e. (40, pair)) (λ e. never (cc));
    }

-- ---- both halves read back, and their names' sources differ
pub straight_reads : (job : Job) → readings (image_of (build_outcome job (table_of straight_labels) [] straight_regions straight_pending).regions) straight_pending ≡ Some 0x0040C008 ∷ Some 0x0040C008 ∷ []
straight_reads job = straight_reads_back job straight_labels [] straight_regions straight_pending evaluated.without (straight_instance job) ∙ evaluated.destined

pub sources_differ : (le32 straight_pending 68 ≡ 1) × (le32 straight_pending 28 ≡ 2)
sources_differ = evaluated.sources
