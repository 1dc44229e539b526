-- Two calls in a row are one call, unless the second is refused with 28. It starts where the first left off, and behind the last word there is
-- nothing to start from. Assumes nothing.
use Rattle.std.specs.Prelude.{ℕ, zero, suc, ◌+◌, ◌%◌, List, Bool, true, false, ◌&&◌, ◌≡◌, refl, eqb, Err, None, Ok, Option, Some}
use Rattle.std.proofs.Common.{add-zero, arith, sym, ap, subst, ◌∙◌, eq-eqb, eqb-true}
use Rattle.std.proofs.lemmas.Bool.{false≢true}
use Rattle.std.proofs.Math.Bool.{and-eq-true_iff}
use Rattle.refusal.specs.declared.Refusal.{Refusal}
use Rattle.refusal.specs.declared.Refusal.TheVariants.{BadStart}
use Rattle.regions.specs.Regions.{region_layout}
use Rattle.reading.specs.Reading.{Image, image_of}
use Rattle.machine.specs.declared.Machine.{Machine}
use Rattle.machine.specs.declared.Reason.{Reason}
use Rattle.machine.specs.declared.Reason.TheVariants.{Allowance, Pc, Word, Overflow}
use Rattle.machine.specs.Step.{at}
use Rattle.machine.proofs.StepLaws.{HoldsZero}
use Rattle.machine.specs.Fits.{Aligned}
use Rattle.machine.proofs.FitsLaws.{word_aligned}
use Rattle.dry_run_outcome.specs.declared.Ran.{Ran}
use Rattle.dry_run_outcome.specs.declared.DryRun.{DryRun}
use Rattle.dry_run_outcome.specs.Fetch.{fetch}
use Rattle.dry_run_outcome.specs.Run.{step, ended, later, run, ran_for}
use Rattle.dry_run_outcome.proofs.RunLaws.{run_stops, run_keeps}
use Rattle.dry_run_outcome.proofs.Split.{go_on_by, run_split}
use Rattle.dry_run_outcome.proofs.Zero.{set_held, run_zero, started_zero}
use Rattle.dry_run_outcome.specs.DryRun.{RunAnswer, is_word, can_start, started, stopped, dry_run_outcome}
use Rattle.dry_run_outcome.proofs.DryRunLaws.{stopped_run, outcome_layout, outcome_start, outcome_run}
use Rattle.dry_run_outcome.proofs.Call.{call_runs}

-- ---- one call from two

-- why a run with allowance b ends if no whole word stands at its pc
abbrev pub ends_for : ℕ → Reason
ends_for zero = Allowance
ends_for (suc b) = Pc

-- The second call's steps are added. If it is refused, the run ends where it was to start.
abbrev pub counted_on : (steps b : ℕ) → RunAnswer → RunAnswer
counted_on steps b (Ok s) = stopped s.reason (steps + s.steps)
counted_on steps b (Err r) = stopped (ends_for b) steps

-- A second call goes on only if the first stopped for the allowance.
abbrev pub joined_for : Reason → (steps b : ℕ) → (first second : DryRun) → DryRun
joined_for Allowance steps b first second = record { machine = second.machine; answer = counted_on steps b second.answer }
joined_for Pc steps b first second = first
joined_for Word steps b first second = first
joined_for Overflow steps b first second = first

abbrev pub joined_by : RunAnswer → (b : ℕ) → (first second : DryRun) → DryRun
joined_by (Ok s) b first second = joined_for s.reason s.steps b first second
joined_by (Err r) b first second = first

abbrev pub joined : (b : ℕ) → (first second : DryRun) → DryRun
joined b first second = joined_by first.answer b first second

-- ---- a state that a run left

started_same : (m : Machine) → HoldsZero m → started m ≡ m
started_same m z = ap (at m.pc) (set_held m.registers z)

-- If a run may not start at a multiple of four, no word stands there.
missing : (f : Option ℕ) (pc : ℕ) → pc % 4 ≡ 0 → (eqb (pc % 4) 0 && is_word f) ≡ false → f ≡ None
missing None pc a e = refl
missing (Some w) pc a e = absurd (false≢true (sym (rw (eq-eqb (pc % 4) 0 a) at e)))

run_missing : (b : ℕ) (image : Image) (m : Machine) → fetch image m.pc ≡ None → run b image m ≡ ended m (ends_for b)
unfolding run step
run_missing zero image m e = refl
run_missing (suc b) image m e = run_stops b image m Pc (rw e)

-- ---- two calls

module _ (regions : List ℕ) (m : Machine) (a b : ℕ) where
  abbrev pub first : DryRun
  first = dry_run_outcome regions m a

  -- from the state that the first left
  abbrev pub second : DryRun
  second = dry_run_outcome regions first.machine b

  -- the run of the first call, and the second behind it
  module _ (g : region_layout regions ≡ None) (s : can_start (image_of regions) m.pc ≡ true) where
    abbrev r : Ran
    r = run a (image_of regions) (started m)

    abbrev behind : DryRun
    behind = dry_run_outcome regions r.machine b

    aligned : Aligned r.machine
    aligned = run_keeps Aligned word_aligned a (image_of regions) (started m) (eqb-true (m.pc % 4) 0 ((and-eq-true_iff (eqb (m.pc % 4) 0) (is_word (fetch (image_of regions) m.pc))).0 s).0)

    goes_on : (c : Bool) → can_start (image_of regions) r.machine.pc ≡ c
        → stopped_run (later r.stopped.steps (run b (image_of regions) r.machine)) ≡ (record { machine = behind.machine; answer = counted_on r.stopped.steps b behind.answer })
    goes_on true e =
        let o : behind ≡ stopped_run (run b (image_of regions) r.machine) =
        outcome_run regions r.machine b g e
        ∙ ap (λ (x : Machine). stopped_run (run b (image_of regions) x)) (started_same r.machine (run_zero a (image_of regions) (started m) (started_zero m)))
        in
        ap (λ (d : DryRun). record { machine = d.machine; answer = counted_on r.stopped.steps b d.answer }) (sym o)
    goes_on false e =
        let o = outcome_start regions r.machine b g e in
        ap (λ (x : Ran). stopped_run (later r.stopped.steps x))
        (run_missing b (image_of regions) r.machine (missing (fetch (image_of regions) r.machine.pc) r.machine.pc aligned e))
        ∙ ap (λ (n : ℕ). stopped_run (ran_for n r.machine (ends_for b))) (add-zero r.stopped.steps)
        ∙ ap (λ (d : DryRun). record { machine = d.machine; answer = counted_on r.stopped.steps b d.answer }) (sym o)

    by_reason : (reason : Reason) → stopped_run (go_on_by reason r (run b (image_of regions))) ≡ joined_by (stopped reason r.stopped.steps) b (stopped_run r) behind
    by_reason Allowance = goes_on (can_start (image_of regions) r.machine.pc) refl
    by_reason Pc = refl
    by_reason Word = refl
    by_reason Overflow = refl

  abbrev IsJoined : DryRun → Type 0
  IsJoined d = dry_run_outcome regions m (a + b) ≡ joined b d (dry_run_outcome regions d.machine b)

  pub two_calls : dry_run_outcome regions m (a + b) ≡ joined b first second
  two_calls = by_layout (region_layout regions) refl
    where
      by_start : (g : region_layout regions ≡ None) → (c : Bool) → can_start (image_of regions) m.pc ≡ c → IsJoined first
      by_start g true e =
          subst IsJoined (sym (outcome_run regions m a g e))
          (outcome_run regions m (a + b) g e ∙ ap stopped_run (run_split a b (image_of regions) (started m)) ∙ by_reason g e (r g e).stopped.reason)
      by_start g false e = subst IsJoined (sym (outcome_start regions m a g e)) (outcome_start regions m (a + b) g e)

      by_layout : (l : Option ℕ) → region_layout regions ≡ l → IsJoined first
      by_layout None e = by_start e (can_start (image_of regions) m.pc) refl
      by_layout (Some place) e = subst IsJoined (sym (outcome_layout regions m a place e)) (outcome_layout regions m (a + b) place e)

  -- ---- if the first stopped for the allowance

  module _ (steps : ℕ) (ends : first.answer ≡ stopped Allowance steps) where
    -- The two calls are one.
    pub one_of_two : (reason : Reason) (more : ℕ) → second.answer ≡ stopped reason more
        → dry_run_outcome regions m (a + b) ≡ (record { machine = second.machine; answer = stopped reason (steps + more) })
    one_of_two reason more e =
        two_calls ∙ ap (λ (x : RunAnswer). joined_by x b first second) ends
        ∙ ap (λ (x : RunAnswer). record { machine = second.machine; answer = counted_on steps b x }) e

    -- The second call is refused with nothing but 28.
    pub only_28 : (q : Refusal) → second.answer ≡ Err q → q ≡ BadStart
    only_28 q e = go (can_start (image_of regions) first.machine.pc) refl
      where
        good : region_layout regions ≡ None
        good = (call_runs regions m a Allowance steps ends).good

        go : (c : Bool) → can_start (image_of regions) first.machine.pc ≡ c → q ≡ BadStart
        go true k =
            let o = outcome_run regions first.machine b good k in
            let z : ◌≡◌ {A = ℕ} 0 1 = cc in
            absurd (omega arith)
        go false k = let o = outcome_start regions first.machine b good k in cc
