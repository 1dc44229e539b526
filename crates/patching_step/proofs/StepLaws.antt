-- A step by its cases: its checks, the end, the next pending, and a step where patching does not run. Assumes nothing.
use Rattle.std.specs.Prelude.{ℕ, ◌*◌, ◌≤◌, ◌<◌, Bool, true, false, List, ◌≡◌, refl, get_or, ltb, eqb, Err, None, Ok, Option, Some}
use Rattle.std.proofs.Common.{sym, subst, ◌∙◌, le-ltb, lt-ltb, eq-eqb, ne_eqb}
use Rattle.std.proofs.Math.Path.{ap, ap₂}
use Rattle.std.proofs.Math.ListN.{length}
use Rattle.jobs.specs.declared.Job.{Job}
use Rattle.record.specs.Records.{places}
use Rattle.refusal.specs.Verdicts.{and_then, layout_verdict, name_verdict, Verdict}
use Rattle.refusal.proofs.VerdictsLaws.{both_pass, layout_pass}
use Rattle.refusal.specs.declared.Refusal.{Refusal}
use Rattle.labels.specs.Labels.{Table}
use Rattle.regions.specs.Regions.{region_layout, region_count}
use Rattle.address_label.specs.Entries.{entry_layout, entry_of}
use Rattle.pending.specs.Pendings.{pending_layout}
use Rattle.breakpoints.specs.Breakpoints.{filled_layout}
use Rattle.breakpoints.proofs.BreakpointsLaws.{filled_good}
use Rattle.build_outcome.specs.Build.{patch_order, patches_verdict, entry_verdict, entry_address}
use Rattle.patching_outcome.specs.declared.PatchCounts.{PatchCounts}
use Rattle.patching_outcome.specs.declared.Progress.TheVariants.{Ended}
use Rattle.patching_outcome.specs.Patching.{patching_of, regions_layout, has_patched, pendings_layout, kept_layout, filled_regions, filled_pendings}
use Rattle.patching_outcome.proofs.LayoutLaws.{regions_good, pendings_are}
use Rattle.patching_outcome.specs.Step.{StepAnswer, step_layouts, step_checks, StepOutcome, now_at, running_step, ended_by, stopped_step, step_by, step_outcome}
use Rattle.patching_outcome.specs.Contract.{StepsTo, StepIs}
use Rattle.patching_step.specs.Steps.{StepLists, InOrder, next_at, Stopped, LayoutsAre}

-- ---- while patching runs
module _ (job : Job) (labels : Table) (entry : ℕ) (regions pending kept : List ℕ) (counts : PatchCounts) (order : List ℕ) (in_order : InOrder regions pending counts order) where
  left_is : (b : Bool) → ltb counts.patches (length order) ≡ b → ltb counts.patches (length (patch_order (filled_regions regions counts) (filled_pendings pending counts))) ≡ b
  left_is b e = ap (λ (l : List ℕ). ltb counts.patches (length l)) (sym in_order) ∙ e

  pub run_ends : length order ≤ counts.patches → (c : PatchCounts) → c ≡ now_at counts counts.patches 1
      → StepsTo (running_step job labels entry) regions pending kept counts (Ok (Ended entry)) c regions kept
  run_ends h c e breakpoints =
      rw (left_is false (le-ltb counts.patches (length order) h), running_step)
      (ap (λ (n : PatchCounts). record { answer = Ok (Ended entry); after = patching_of regions pending breakpoints kept n }) (sym e))

  pub run_next : counts.patches < length order → (answer : StepAnswer) (c : PatchCounts) (d k : List ℕ)
      → StepsTo (next_at job labels (get_or order counts.patches 0)) regions pending kept counts answer c d k
      → StepsTo (running_step job labels entry) regions pending kept counts answer c d k
  run_next h answer c d k f breakpoints =
      rw (left_is true (lt-ltb counts.patches (length order) h), running_step)
      (subst (λ (l : List ℕ). StepsTo (next_at job labels (get_or l counts.patches 0)) regions pending kept counts answer c d k) in_order f breakpoints)

-- ---- while patching does not run
module _ (job : Job) (labels : Table) (entry : ℕ) (regions pending : List ℕ) (counts : PatchCounts) where
  pub stop_ended : counts.state ≡ 1 → Stopped job labels entry regions pending counts (Ok (Ended entry))
  stop_ended e breakpoints kept = rw (eq-eqb counts.state 1 e, stopped_step)

  pub stop_again : (counts.state ≡ 1 → ⊥) → (v : Verdict) → v ≡ patches_verdict job labels (filled_regions regions counts) (filled_pendings pending counts)
      → (answer : StepAnswer) → ended_by entry v ≡ answer → Stopped job labels entry regions pending counts answer
  stop_again n v e answer a breakpoints kept =
      rw (ne_eqb counts.state 1 n, stopped_step)
      (ap (λ (x : StepAnswer). record { answer = x; after = patching_of regions pending breakpoints kept counts }) (ap (ended_by entry) (sym e) ∙ a))

-- ---- the checks

pub patched_layout : (n : ℕ) (s : List ℕ) (l : Option ℕ) → has_patched n s l ≡ None → l ≡ None
patched_layout n s None e = refl
patched_layout n s (Some p) e = e

module _ (labels : Table) (entry regions pending kept : List ℕ) (counts : PatchCounts) where
  pub layouts_are : {l e r p k : Verdict} → layout_verdict 0 labels.layout ≡ l → layout_verdict 1 (entry_layout entry) ≡ e
      → layout_verdict 2 (filled_layout counts.regions regions (region_layout (filled_regions regions counts))) ≡ r
      → layout_verdict 3 (filled_layout counts.pending pending (has_patched counts.patches (filled_pendings pending counts) (pending_layout (region_count (filled_regions regions counts)) (filled_pendings pending counts)))) ≡ p
      → layout_verdict 4 (filled_layout (4 * length (places (filled_pendings pending counts))) kept None) ≡ k
      → LayoutsAre labels entry regions pending kept counts (and_then l (and_then e (and_then r (and_then p k))))
  unfolding step_layouts regions_layout pendings_layout kept_layout
  layouts_are hl he hr hp hk breakpoints = rw (hl, he, hr, hp, hk)

  pub record ListsPass : Type 0 where
    pub labels_good : labels.layout ≡ None
    pub entry_good : entry_layout entry ≡ None
    pub step_lists : StepLists regions pending kept counts

  pub lists_pass : (breakpoints : List ℕ) → step_layouts labels entry (patching_of regions pending breakpoints kept counts) ≡ Ok tt → ListsPass
  unfolding step_layouts kept_layout
  lists_pass breakpoints e =
      let p = patching_of regions pending breakpoints kept counts in
      let l₁ = both_pass (layout_verdict 0 labels.layout) _ e in
      let l₂ = both_pass (layout_verdict 1 (entry_layout entry)) _ l₁.1 in
      let l₃ = both_pass (layout_verdict 2 (regions_layout p)) _ l₂.1 in
      let l₄ = both_pass (layout_verdict 3 (pendings_layout p)) _ l₃.1 in
      let g = regions_good p (layout_pass 2 (regions_layout p) l₃.0) in
      let q = pendings_are p (layout_pass 3 (pendings_layout p) l₄.0) in
      let k = filled_good (4 * length (places (filled_pendings pending counts))) kept None (layout_pass 4 (kept_layout p) l₄.1) in
      record {
        labels_good = layout_pass 0 labels.layout l₁.0;
        entry_good = layout_pass 1 (entry_layout entry) l₂.0;
        step_lists = record {
          lists = record { regions_filled = record { within = g.0.1; good = g.1 }; pending_within = q.within.1; pending_good = q.good };
          kept_room = k.1;
        };
      }

  abbrev pub ChecksAre : Verdict → Type 0
  ChecksAre v = (breakpoints : List ℕ) → step_checks labels entry (patching_of regions pending breakpoints kept counts) ≡ v

  pub checks_are : (a b c : Verdict) → LayoutsAre labels entry regions pending kept counts a → name_verdict 0 labels.repeat ≡ b
      → entry_verdict labels entry (entry_of entry (places entry)) ≡ c → ChecksAre (and_then a (and_then b c))
  unfolding step_checks
  checks_are a b c ha hb hc breakpoints = rw (ha breakpoints, hb, hc)

  -- ---- a whole step
  module _ (job : Job) where
    pub step_refuses : (r : Refusal) → ChecksAre (Err r) → StepIs job labels entry regions pending kept counts (Err r) counts regions kept
    unfolding step_outcome
    step_refuses r e breakpoints =
        ap (step_by job labels (entry_address labels entry (entry_of entry (places entry))) (patching_of regions pending breakpoints kept counts)) (e breakpoints)

    module _ (pass : ChecksAre (Ok tt)) (a : ℕ) (entry_is : entry_address labels entry (entry_of entry (places entry)) ≡ a) where
      passes : (breakpoints : List ℕ) → let p = patching_of regions pending breakpoints kept counts in
          step_outcome job labels entry p ≡ elim (eqb counts.state 0) [ true ↦ running_step job labels a p | false ↦ stopped_step job labels a p ]
      unfolding step_outcome
      passes breakpoints =
          ap₂ (λ (n : ℕ) (v : Verdict). step_by job labels n (patching_of regions pending breakpoints kept counts) v) entry_is (pass breakpoints)

      pub step_runs : counts.state ≡ 0 → (answer : StepAnswer) (c : PatchCounts) (d k : List ℕ) → StepsTo (running_step job labels a) regions pending kept counts answer c d k
          → StepIs job labels entry regions pending kept counts answer c d k
      step_runs z answer c d k f breakpoints =
          let p = patching_of regions pending breakpoints kept counts in
          passes breakpoints ∙ ap (λ (b : Bool). elim b as (λ _. StepOutcome) [ true ↦ running_step job labels a p | false ↦ stopped_step job labels a p ]) (eq-eqb counts.state 0 z) ∙ f breakpoints

      pub step_stopped : (counts.state ≡ 0 → ⊥) → (answer : StepAnswer) → Stopped job labels a regions pending counts answer
          → StepIs job labels entry regions pending kept counts answer counts regions kept
      step_stopped z answer f breakpoints =
          let p = patching_of regions pending breakpoints kept counts in
          passes breakpoints ∙ ap (λ (b : Bool). elim b as (λ _. StepOutcome) [ true ↦ running_step job labels a p | false ↦ stopped_step job labels a p ]) (ne_eqb counts.state 0 z) ∙ f breakpoints kept
