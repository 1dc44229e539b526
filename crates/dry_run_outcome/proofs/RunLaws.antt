-- Laws of runs: one step more, and a loop that has taken some steps and has the rest of the allowance left. Assumes nothing.
use Prim.Native.Nat.{ℕ, zero, suc, ◌+◌, ◌-◌, ◌<◌, ◌≤◌}
use Rattle.std.proofs.Common.{zero-add, add-zero, add_assoc, arith, sym, ap, ◌∙◌}
use Rattle.std.specs.Prelude.{◌≡◌, None, Option, Some}
use Rattle.std.proofs.Math.Path.{refl, subst}
use Rattle.reading.specs.Reading.{Image}
use Rattle.machine.specs.declared.Machine.{Machine}
use Rattle.machine.specs.declared.Reason.{Reason}
use Rattle.machine.specs.declared.Reason.TheVariants.{Allowance}
use Rattle.machine.specs.Step.{Step, goes, stops, step_word}
use Rattle.machine.proofs.StepLaws.{After, StopsOtherwise, word_stop}
use Rattle.dry_run_outcome.specs.declared.Ran.{Ran}
use Rattle.dry_run_outcome.specs.Fetch.{fetch}
use Rattle.dry_run_outcome.specs.Run.{step_fetched, step, ended, later, run, ran_for}

pub later_later : (a b : ℕ) (r : Ran) → later a (later b r) ≡ later (a + b) r
later_later a b r = ap (λ (n : ℕ). ran_for n r.machine r.stopped.reason) (sym (add_assoc a b r.stopped.steps))

pub later_none : (r : Ran) → later 0 r ≡ r
later_none r = ap (λ (n : ℕ). ran_for n r.machine r.stopped.reason) (zero-add r.stopped.steps)

later_end : (n : ℕ) (m : Machine) (reason : Reason) → later n (ended m reason) ≡ ran_for n m reason
later_end n m reason = ap (λ (k : ℕ). ran_for k m reason) (add-zero n)

module _ (n : ℕ) (image : Image) (m : Machine) where
  pub run_goes : (m' : Machine) → step image m ≡ goes m' → run (suc n) image m ≡ later 1 (run n image m')
  unfolding run
  run_goes m' e = rw (e, run)

  pub run_stops : (reason : Reason) → step image m ≡ stops reason → run (suc n) image m ≡ ended m reason
  unfolding run
  run_stops reason e = rw (e, run)

-- No step stops for the allowance.
pub stops_otherwise : (image : Image) (m : Machine) (reason : Reason) → step image m ≡ stops reason → reason ≡ Allowance → ⊥
unfolding step
stops_otherwise image m reason e = subst StopsOtherwise e (fetched (fetch image m.pc))
  where
    fetched : (f : Option ℕ) → StopsOtherwise (step_fetched f m)
    fetched (Some w) = word_stop w m
    fetched None = λ x. let y : ◌≡◌ {A = ℕ} 0 1 = cc in omega arith

-- What every word keeps true, every run keeps true.
module _ (P : Machine → Type 0) (keeps : (w : ℕ) (m : Machine) → P m → After P (step_word w m)) where
  pub step_keeps : (image : Image) (m m' : Machine) → step image m ≡ goes m' → P m → P m'
  unfolding step
  step_keeps image m m' e p = subst (After P) e (fetched (fetch image m.pc))
    where
      fetched : (f : Option ℕ) → After P (step_fetched f m)
      fetched (Some w) = keeps w m p
      fetched None = tt

  pub run_keeps : (n : ℕ) (image : Image) (m : Machine) → P m → P (run n image m).machine
  unfolding run
  run_keeps zero image m p = p
  run_keeps (suc n) image m p = go (step image m) refl (run_keeps n image)
    where
      go : (s : Step) → step image m ≡ s → ((x : Machine) → P x → P (run n image x).machine) → P (run (suc n) image m).machine
      go (goes x) e ih = rw (run_goes n image m x e) (ih x (step_keeps image m x e p))
      go (stops reason) e ih = rw (run_stops n image m reason e) p

-- ---- a loop that has taken `taken` steps and has the rest of the allowance n left

pub loop_start : (n : ℕ) (image : Image) (m : Machine) → run n image m ≡ later 0 (run (n - 0) image m)
loop_start n image m =
    let e : n ≡ n - 0 = omega arith in
    ap (λ (k : ℕ). run k image m) e ∙ sym (later_none (run (n - 0) image m))

pub loop_end : (n : ℕ) (image : Image) (m : Machine) (taken : ℕ) → taken ≤ n → n ≤ taken → later taken (run (n - taken) image m) ≡ ran_for taken m Allowance
unfolding run
loop_end n image m taken h g =
    let e : n - taken ≡ 0 = omega arith in
    ap (λ (k : ℕ). later taken (run k image m)) e ∙ later_end taken m Allowance

module _ (n : ℕ) (image : Image) (m : Machine) (taken : ℕ) (h : taken < n) where
  left : n - taken ≡ suc (n - (taken + 1))
  left = omega arith

  pub loop_goes : (m' : Machine) → step image m ≡ goes m' → later taken (run (n - taken) image m) ≡ later (taken + 1) (run (n - (taken + 1)) image m')
  loop_goes m' e =
      ap (λ (k : ℕ). later taken (run k image m)) left
      ∙ ap (later taken) (run_goes (n - (taken + 1)) image m m' e)
      ∙ later_later taken 1 (run (n - (taken + 1)) image m')

  pub loop_stops : (reason : Reason) → step image m ≡ stops reason → later taken (run (n - taken) image m) ≡ ran_for taken m reason
  loop_stops reason e =
      ap (λ (k : ℕ). later taken (run k image m)) left
      ∙ ap (later taken) (run_stops (n - (taken + 1)) image m reason e)
      ∙ later_end taken m reason
