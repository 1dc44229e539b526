-- "never above the allowance. The allowance is given as the reason exactly when steps equal it." Assumes nothing.
use Rattle.std.specs.Prelude.{ℕ, zero, suc, ◌≤◌, ◌≡◌, refl}
use Rattle.std.proofs.Common.{arith}
use Rattle.reading.specs.Reading.{Image}
use Rattle.machine.specs.declared.Machine.{Machine}
use Rattle.machine.specs.declared.Reason.TheVariants.{Allowance}
use Rattle.machine.specs.Step.{Step, goes, stops}
use Rattle.dry_run_outcome.specs.declared.Ran.{Ran}
use Rattle.dry_run_outcome.specs.Run.{step, run}
use Rattle.dry_run_outcome.proofs.RunLaws.{run_goes, run_stops, stops_otherwise}

pub record Counted (n : ℕ) (r : Ran) : Type 0 where
  pub within : r.stopped.steps ≤ n
  pub all_used : r.stopped.reason ≡ Allowance → r.stopped.steps ≡ n
  pub by_allowance : r.stopped.steps ≡ n → r.stopped.reason ≡ Allowance

pub counted : (n : ℕ) (image : Image) (m : Machine) → Counted n (run n image m)
unfolding run
counted zero image m = record { within = omega arith; all_used = λ e. refl; by_allowance = λ e. refl }
counted (suc n) image m = go (step image m) refl (counted n image)
  where
    go : (s : Step) → step image m ≡ s → ((m' : Machine) → Counted n (run n image m')) → Counted (suc n) (run (suc n) image m)
    go (goes m') e ih =
        let k = ih m' in
        rw (run_goes n image m m' e) record {
          within = omega (arith, k.within);
          all_used = λ x. omega (arith, k.all_used x);
          by_allowance = λ x. k.by_allowance (omega arith);
        }
    go (stops reason) e ih =
        rw (run_stops n image m reason e) record { within = omega arith; all_used = λ x. absurd (stops_otherwise image m reason e x); by_allowance = λ x. absurd (omega arith) }
