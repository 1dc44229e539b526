-- Before the first step that passes its checks, the script is where its accepted lines alone are. A step then passes as a build does, or is
-- refused as a build is (document 02, P12). Assumes nothing.
use Rattle.std.specs.Prelude.{ℕ, ◌≡◌, take, Err, None, Ok, Option, Some}
use Rattle.std.proofs.Common.{arith, subst, ◌∙◌, length-take}
use mathlib.Core.List.{List, [], Memᴰ}
use Rattle.std.proofs.Math.Path.{refl, sym, ap, ap₂}
use Rattle.jobs.specs.declared.Job.{Job}
use Rattle.record.specs.Records.{places}
use Rattle.refusal.specs.Verdicts.{and_then, layout_verdict, name_verdict, Verdict}
use Rattle.refusal.proofs.VerdictsLaws.{both_pass, layout_pass}
use Rattle.refusal.specs.declared.Refusal.{Refusal}
use Rattle.labels.specs.Labels.{Table}
use Rattle.regions.specs.Regions.{region_layout, region_count}
use Rattle.address_label.specs.Entries.{entry_layout, entry_of}
use Rattle.pending.specs.Pendings.{pending_layout}
use Rattle.build_outcome.specs.Build.{patches_verdict, entry_verdict, layout_verdicts, build_verdict, write_patches}
use Rattle.patching_outcome.specs.Patching.{Patching, regions_of, pendings_of, order_of, regions_layout, pendings_layout, kept_layout}
use Rattle.patching_outcome.specs.Step.{step_layouts, step_checks, put_back}
use Rattle.patching_laws.specs.Claims.{Start}
use Rattle.patching_outcome.proofs.LayoutLaws.{regions_is, pendings_is, kept_is, few}
use Rattle.patching_laws.proofs.HeldLaws.{Held}
use Rattle.build_outcome.proofs.BuildLaws.{then_pass}
use Rattle.patching_laws.proofs.StepLaws.{Opened, regions_pass, pendings_pass, kept_pass}

-- If the checks stop with r, they still do with another check behind them.
stop_then : (l n e x : Verdict) (r : Refusal) → and_then l (and_then n e) ≡ Err r → and_then l (and_then n (and_then e x)) ≡ Err r
stop_then (Err s) n e x r h = h
stop_then (Ok tt) (Err s) e x r h = h
stop_then (Ok _) (Ok _) (Err s) x r h = h
stop_then (Ok _) (Ok _) (Ok _) x r h = let z : ◌≡◌ {A = ℕ} 0 1 = cc in absurd (omega arith)

module _ (job : Job) (labels : Table) (entry : List ℕ) where
  -- A step's checks, given the layouts of the lists.
  abbrev checks_by : Option ℕ → Option ℕ → Option ℕ → Verdict
  checks_by regions pending kept =
      and_then
      (and_then (layout_verdict 0 labels.layout)
      (and_then (layout_verdict 1 (entry_layout entry))
      (and_then (layout_verdict 2 regions)
      (and_then (layout_verdict 3 pending) (layout_verdict 4 kept)))))
      (and_then (name_verdict 0 labels.repeat) (entry_verdict labels entry (entry_of entry (places entry))))

  checks_are : (q : Patching) → step_checks labels entry q ≡ checks_by (regions_layout q) (pendings_layout q) (kept_layout q)
  unfolding step_checks step_layouts
  checks_are q = refl

  -- When the lists keep their layouts, only the other checks are left.
  pub checks_same : (q b : Patching) → Held job labels entry q b → step_checks labels entry q ≡ checks_by None None None
  checks_same q b h =
      checks_are q ∙ ap₂ (λ (x y : Option ℕ). checks_by x y (kept_layout q)) (regions_pass job labels entry q b h) (pendings_pass job labels entry q b h)
      ∙ ap (checks_by None None) (kept_pass job labels entry q b h)

  module _ (q : Patching) (s : Start q) where
    kept_enough : pending_layout (region_count (regions_of q)) (pendings_of q) ≡ None → kept_layout q ≡ None
    kept_enough g =
        let w = s.pending_within in
        kept_is q (s.kept_within.0, omega (arith, few (region_count (regions_of q)) (pendings_of q) g, length-take q.counts.pending q.pending, s.kept_within.1))

    regions_are : regions_layout q ≡ region_layout (regions_of q)
    regions_are = regions_is q s.regions_within

    pendings_are : pendings_layout q ≡ pending_layout (region_count (regions_of q)) (pendings_of q)
    pendings_are = pendings_is q s.pending_within (omega (arith, s.none_patched))

    kept_no_part : (l : Option ℕ) → pending_layout (region_count (regions_of q)) (pendings_of q) ≡ l → and_then (layout_verdict 3 l) (layout_verdict 4 (kept_layout q)) ≡ layout_verdict 3 l
    kept_no_part None e = ap (layout_verdict 4) (kept_enough e)
    kept_no_part (Some place) e = refl

    -- A step checks the layouts that a build checks.
    layouts_same : step_layouts labels entry q ≡ layout_verdicts labels entry (regions_of q) (pendings_of q)
    unfolding step_layouts layout_verdicts
    layouts_same =
        ap₂ (λ (x y : Option ℕ). and_then (layout_verdict 0 labels.layout) (and_then (layout_verdict 1 (entry_layout entry)) (and_then (layout_verdict 2 x) (and_then (layout_verdict 3 y) (layout_verdict 4 (kept_layout q)))))) regions_are pendings_are
        ∙ ap (λ (v : Verdict). and_then (layout_verdict 0 labels.layout) (and_then (layout_verdict 1 (entry_layout entry)) (and_then (layout_verdict 2 (region_layout (regions_of q))) v)))
        (kept_no_part (pending_layout (region_count (regions_of q)) (pendings_of q)) refl)

    -- If the step's checks refuse, a build refuses alike.
    pub checks_stop : (r : Refusal) → step_checks labels entry q ≡ Err r → build_verdict job labels entry (regions_of q) (pendings_of q) ≡ Err r
    unfolding step_checks build_verdict
    checks_stop r e =
        stop_then (layout_verdicts labels entry (regions_of q) (pendings_of q)) (name_verdict 0 labels.repeat) (entry_verdict labels entry (entry_of entry (places entry))) (patches_verdict job labels (regions_of q) (pendings_of q)) r
        (sym (ap (λ (v : Verdict). and_then v (and_then (name_verdict 0 labels.repeat) (entry_verdict labels entry (entry_of entry (places entry))))) layouts_same) ∙ e)

    -- What is known once the step's checks pass: a build's checks pass too.
    pub record Passed : Type 0 where
      pub opened : Opened job labels entry
      pub good : region_layout (regions_of q) ≡ None
      pub pendings_good : pending_layout (region_count (regions_of q)) (pendings_of q) ≡ None

    pub checks_passed : step_checks labels entry q ≡ Ok tt → Passed
    unfolding step_checks step_layouts
    checks_passed e =
        let c = both_pass (step_layouts labels entry q) _ e in
        let n = both_pass (name_verdict 0 labels.repeat) _ c.1 in
        let l₀ = both_pass (layout_verdict 0 labels.layout) _ c.0 in
        let l₁ = both_pass (layout_verdict 1 (entry_layout entry)) _ l₀.1 in
        let l₂ = both_pass (layout_verdict 2 (regions_layout q)) _ l₁.1 in
        let l₃ = both_pass (layout_verdict 3 (pendings_layout q)) _ l₂.1 in
        record {
          opened = record {
            labels_good = layout_pass 0 labels.layout l₀.0;
            entry_good = layout_pass 1 (entry_layout entry) l₁.0;
            names_pass = n.0;
            entry_passes = n.1;
          };
          good = sym regions_are ∙ layout_pass 2 (regions_layout q) l₂.0;
          pendings_good = sym pendings_are ∙ layout_pass 3 (pendings_layout q) l₃.0;
        }

    nothing_done : take q.counts.patches (order_of q) ≡ []
    nothing_done = ap (λ (n : ℕ). take n (order_of q)) s.none_patched

    pub fresh_held : region_layout (regions_of q) ≡ None → pending_layout (region_count (regions_of q)) (pendings_of q) ≡ None → Held job labels entry q q
    unfolding write_patches put_back
    fresh_held g p = record {
      none_patched = s.none_patched;
      base_runs = s.running;
      pending_is = refl;
      breakpoints_are = refl;
      regions_fill = refl;
      pending_fill = refl;
      breakpoints_fill = refl;
      regions_within = s.regions_within;
      pending_within = s.pending_within;
      kept_within = s.kept_within;
      good = g;
      pendings_good = p;
      count = omega (arith, s.none_patched);
      passed = λ at m. elim (subst (Memᴰ at) nothing_done m) [ ];
      image = sym (ap (λ (ps : List ℕ). write_patches labels (regions_of q) (pendings_of q) ps q.regions) nothing_done);
      undo = ap (λ (ps : List ℕ). put_back (regions_of q) (pendings_of q) q.kept 0 ps q.regions) nothing_done;
    }

  -- A state that holds with itself is a start.
  pub held_start : (q : Patching) → Held job labels entry q q → Start q
  held_start q h = record { none_patched = h.none_patched; running = h.base_runs; regions_within = h.regions_within; pending_within = h.pending_within; kept_within = h.kept_within }

  -- A build's verdict once all checks before the patches have passed.
  pub build_is : (q b : Patching) → Held job labels entry q b → Opened job labels entry → build_verdict job labels entry (regions_of b) (pendings_of b) ≡ patches_verdict job labels (regions_of b) (pendings_of b)
  unfolding build_verdict layout_verdicts
  build_is q b h o =
      let l : layout_verdicts labels entry (regions_of b) (pendings_of b) ≡ Ok tt =
      then_pass (layout_verdict 0 labels.layout) _ (ap (layout_verdict 0) o.labels_good)
      (then_pass (layout_verdict 1 (entry_layout entry)) _ (ap (layout_verdict 1) o.entry_good)
      (then_pass (layout_verdict 2 (region_layout (regions_of b))) _ (ap (layout_verdict 2) h.good) (ap (layout_verdict 3) h.pendings_good))) in
      ap₂ (λ (x y : Verdict). and_then x (and_then y (and_then (entry_verdict labels entry (entry_of entry (places entry))) (patches_verdict job labels (regions_of b) (pendings_of b))))) l o.names_pass
      ∙ ap (λ (v : Verdict). and_then v (patches_verdict job labels (regions_of b) (pendings_of b))) o.entry_passes
