-- The region list that an accepted build leaves keeps its layout. A list over the limit is refused, whatever it holds. So the text of an
-- input's build follows from the part of the list that is held. Assumes nothing.
use Rattle.std.specs.Prelude.{◌≡◌, ℕ, ◌<◌, Bool, true, false, List, length, take, nat_le, refl, Err, None, Ok, Result}
use Rattle.std.proofs.Common.{arith, ap, ap₂, sym, ◌∙◌, length-take, take_all, leb-true, leb-false}
use Rattle.jobs.specs.declared.Job.{Job}
use Rattle.record.specs.Records.{limit}
use Rattle.refusal.specs.Verdicts.{and_then, layout_verdict, Verdict}
use Rattle.refusal.specs.declared.Refusal.{Refusal}
use Rattle.labels.specs.Labels.{label_layout, table_of, Table}
use Rattle.address_label.specs.Entries.{entry_layout}
use Rattle.regions.specs.Regions.{region_layout}
use Rattle.regions.proofs.RegionsLaws.{layout_long}
use Rattle.build_outcome.specs.Build.{layout_verdicts, build_verdict, outcome_by, build_outcome}
use Rattle.build_outcome.proofs.BuildLaws.{outcome_accepted, outcome_refused}
use Rattle.finished_words.proofs.AcceptedLaws.{finished_kept}
use Rattle.binary_builder.specs.Contract.{BuildBy}
use Rattle.input.specs.Input.{list_of, held}
use Rattle.image_text.specs.Image.{outcome_text, build_text, finish_text_by}

module _ (job : Job) (labels : Table) (entry regions pending : List ℕ) where
  pub accepted_layout : (address : ℕ) → (build_outcome job labels entry regions pending).answer ≡ Ok address → region_layout (build_outcome job labels entry regions pending).regions ≡ None
  accepted_layout address h = go (build_verdict job labels entry regions pending) refl
    where
      go : (v : Verdict) → build_verdict job labels entry regions pending ≡ v → region_layout (build_outcome job labels entry regions pending).regions ≡ None
      go (Ok tt) e = rw (outcome_accepted job labels entry regions pending e).1 (finished_kept job labels entry regions pending e).layout_good
      go (Err r) e = cc (outcome_refused job labels entry regions pending r e).0

-- Once a check has refused, what follows does not show in the text.
stopped : (a b v w : Verdict) (r : Refusal) (address : ℕ) (d₁ r₁ d₂ r₂ : List ℕ) → let o₁ = outcome_by (and_then (and_then a (and_then b (Err r))) v) address d₁ r₁ in
    let o₂ = outcome_by (and_then (and_then a (and_then b (Err r))) w) address d₂ r₂ in outcome_text o₁.answer o₁.regions ≡ outcome_text o₂.answer o₂.regions
stopped (Ok _) (Ok _) v w r address d₁ r₁ d₂ r₂ = refl
stopped (Ok _) (Err b) v w r address d₁ r₁ d₂ r₂ = refl
stopped (Err a) b v w r address d₁ r₁ d₂ r₂ = refl

module _ (job : Job) (labels entry pending : List ℕ) where
  long_text : (r s : List ℕ) → limit < length r → limit < length s → build_text job labels entry r pending ≡ build_text job labels entry s pending
  unfolding build_outcome build_verdict layout_verdicts
  long_text r s h k = rw (layout_long r h, layout_long s k) (stopped (layout_verdict 0 (label_layout labels)) (layout_verdict 1 (entry_layout entry)) _ _ _ _ _ _ _ _)

  -- One byte more than the limit prints the same as the whole list.
  pub held_text : (r : List ℕ) → build_text job labels entry (take 65537 r) pending ≡ build_text job labels entry r pending
  held_text r = go (nat_le (length r) 65537) refl
    where
      go : (b : Bool) → nat_le (length r) 65537 ≡ b → build_text job labels entry (take 65537 r) pending ≡ build_text job labels entry r pending
      go true e = ap (λ (s : List ℕ). build_text job labels entry s pending) (take_all 65537 r (leb-true (length r) 65537 e))
      go false e =
          let h = leb-false (length r) 65537 e in
          long_text (take 65537 r) r (simp length-take (omega arith)) (omega arith)

-- ---- a build that was made
module _ (job : Job) (labels entry regions pending : List ℕ) {built : Result ℕ Refusal} {exit : List ℕ} (b : BuildBy job labels entry regions pending built exit) where
  pub built_layout : (address : ℕ) → built ≡ Ok address → region_layout exit ≡ None
  built_layout address e = rw b.bytes_are (accepted_layout job (table_of labels) entry regions pending address (sym b.answer_is ∙ e))

  pub built_text : (input : List ℕ) → labels ≡ list_of 0 input → entry ≡ list_of 1 input → regions ≡ held (list_of 2 input) → pending ≡ list_of 3 input
      → outcome_text built exit ≡ finish_text_by job input
  unfolding finish_text_by
  built_text input l e r p =
      ap₂ outcome_text b.answer_is b.bytes_are ∙ rw (l, e, r, p) (held_text job (list_of 0 input) (list_of 1 input) (list_of 3 input) (list_of 2 input))
