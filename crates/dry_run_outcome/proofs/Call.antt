-- What holds of a run, stated for the whole call: its steps and reason, its stopping word, $zero and the registers. Assumes nothing.
use Rattle.std.specs.Prelude.{ℕ, List, Bool, true, false, ◌≡◌, refl, Err, None, Option, Some}
use Rattle.std.proofs.Common.{arith, sym, ap, subst, ◌∙◌, length-set}
use Rattle.refusal.specs.declared.Refusal.{Refusal}
use Rattle.refusal.specs.declared.Refusal.TheVariants.{BadLayout, BadStart}
use Rattle.regions.specs.Regions.{region_layout}
use Rattle.reading.specs.Reading.{image_of}
use Rattle.machine.specs.declared.Machine.{Machine}
use Rattle.machine.specs.declared.Reason.{Reason}
use Rattle.machine.specs.declared.Reason.TheVariants.{Allowance}
use Rattle.machine.specs.Step.{stops}
use Rattle.machine.proofs.StepLaws.{HoldsZero}
use Rattle.machine.specs.Fits.{Fits}
use Rattle.machine.proofs.FitsLaws.{set_fits, word_fits}
use Rattle.dry_run_outcome.specs.declared.Ran.{Ran}
use Rattle.dry_run_outcome.specs.declared.Stopped.{Stopped}
use Rattle.dry_run_outcome.specs.declared.DryRun.{DryRun}
use Rattle.dry_run_outcome.specs.Run.{step, run, ran_for}
use Rattle.dry_run_outcome.proofs.RunLaws.{run_keeps}
use Rattle.dry_run_outcome.proofs.Counted.{Counted, counted}
use Rattle.dry_run_outcome.proofs.Stopping.{StopsAt, stopping}
use Rattle.dry_run_outcome.proofs.Zero.{run_zero, started_zero}
use Rattle.dry_run_outcome.specs.DryRun.{can_start, started, stopped, dry_run_outcome, refused_run}
use Rattle.dry_run_outcome.proofs.DryRunLaws.{stopped_run, outcome_layout, outcome_start, outcome_run}

module _ (regions : List ℕ) (m : Machine) (allowance : ℕ) where
  abbrev pub call : DryRun
  call = dry_run_outcome regions m allowance

  -- a call is refused and gives its machine back, or it is a run
  pub data Called : Type 0 where
    not_run : (r : Refusal) → call ≡ refused_run m r → Called
    is_run : region_layout regions ≡ None → can_start (image_of regions) m.pc ≡ true → call ≡ stopped_run (run allowance (image_of regions) (started m)) → Called

  pub called : Called
  called = by_layout (region_layout regions) refl
    where
      by_start : region_layout regions ≡ None → (b : Bool) → can_start (image_of regions) m.pc ≡ b → Called
      by_start g true e = is_run g e (outcome_run regions m allowance g e)
      by_start g false e = not_run BadStart (outcome_start regions m allowance g e)

      by_layout : (l : Option ℕ) → region_layout regions ≡ l → Called
      by_layout None e = by_start e (can_start (image_of regions) m.pc) refl
      by_layout (Some place) e = not_run (BadLayout 0 place) (outcome_layout regions m allowance place e)

  pub call_refused : (r : Refusal) → call.answer ≡ Err r → call.machine ≡ m
  call_refused r e = go called
    where
      go : Called → call.machine ≡ m
      go (not_run q o) = ap (λ (d : DryRun). d.machine) o
      go (is_run g s o) = let z : ◌≡◌ {A = ℕ} 0 1 = cc in absurd (omega arith)

  module _ (reason : Reason) (steps : ℕ) (ends : call.answer ≡ stopped reason steps) where
    -- the run of a call that is not refused
    pub record Runs : Type 0 where
      pub good : region_layout regions ≡ None
      pub starts : can_start (image_of regions) m.pc ≡ true
      pub ran : run allowance (image_of regions) (started m) ≡ ran_for steps call.machine reason

    pub call_runs : Runs
    call_runs = go called
      where
        go : Called → Runs
        go (not_run q o) = let z : ◌≡◌ {A = ℕ} 0 1 = cc in absurd (omega arith)
        go (is_run g s o) =
            let r = run allowance (image_of regions) (started m) in
            let left : r.machine ≡ call.machine = sym (ap (λ (d : DryRun). d.machine) o) in
            let same : ◌≡◌ {A = Stopped} (record { reason = r.stopped.reason; steps = r.stopped.steps }) (record { reason = reason; steps = steps }) = cc in
            let why : r.stopped.reason ≡ reason = ap (λ (k : Stopped). k.reason) same in
            let many : r.stopped.steps ≡ steps = ap (λ (k : Stopped). k.steps) same in record {
              good = g;
              starts = s;
              ran = ap (λ (n : ℕ). ran_for n r.machine r.stopped.reason) many ∙ ap (λ (q : Reason). ran_for steps r.machine q) why ∙ ap (λ (k : Machine). ran_for steps k reason) left;
            }

    -- "never above the allowance. The allowance is given as the reason exactly when steps equal it."
    pub call_counted : Counted allowance (ran_for steps call.machine reason)
    call_counted = subst (Counted allowance) call_runs.ran (counted allowance (image_of regions) (started m))

    -- "the stopping word changes nothing": a call that allows just the steps taken leaves the same state, and the run stops there.
    pub call_stopping : (reason ≡ Allowance → ⊥) → (dry_run_outcome regions m steps ≡ stopped_run (ran_for steps call.machine Allowance)) × (step (image_of regions) call.machine ≡ stops reason)
    call_stopping n =
        let r = call_runs in
        let e = r.ran in
        let s = subst (StopsAt (image_of regions) (started m)) e (stopping allowance (image_of regions) (started m) (λ x. n (sym (ap (λ (k : Ran). k.stopped.reason) e) ∙ x))) in
        (outcome_run regions m steps r.good r.starts ∙ ap stopped_run s.reached, s.stops_there)

    -- "$zero always 0"
    pub call_zero : HoldsZero call.machine
    call_zero = subst (λ (k : Ran). HoldsZero k.machine) call_runs.ran (run_zero allowance (image_of regions) (started m) (started_zero m))

  -- 32 registers of 32 bits stay 32 registers of 32 bits, whether the call is refused or runs.
  pub call_fits : Fits m → Fits call.machine
  call_fits f = go called
    where
      start : Fits (started m)
      start = record { count = length-set m.registers 0 0 ∙ f.count; held = λ r. set_fits m.registers 0 0 r f.held (omega arith); pc_held = f.pc_held }

      go : Called → Fits call.machine
      go (not_run r o) = subst (λ (d : DryRun). Fits d.machine) (sym o) f
      go (is_run g s o) = subst (λ (d : DryRun). Fits d.machine) (sym o) (run_keeps Fits word_fits allowance (image_of regions) (started m) start)
