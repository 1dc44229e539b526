-- "the stopping word changes nothing": the state returned is the one after the steps taken, and the run stops there. Assumes nothing.
use Rattle.std.specs.Prelude.{ℕ, zero, suc, ◌≡◌, refl}
use Rattle.std.proofs.Common.{add_comm, add-one, ap, ◌∙◌}
use Rattle.reading.specs.Reading.{Image}
use Rattle.machine.specs.declared.Machine.{Machine}
use Rattle.machine.specs.declared.Reason.TheVariants.{Allowance}
use Rattle.machine.specs.Step.{Step, goes, stops}
use Rattle.dry_run_outcome.specs.declared.Ran.{Ran}
use Rattle.dry_run_outcome.specs.Run.{step, later, run, ran_for}
use Rattle.dry_run_outcome.proofs.RunLaws.{run_goes, run_stops}

pub record StopsAt (image : Image) (m : Machine) (r : Ran) : Type 0 where
  pub reached : run r.stopped.steps image m ≡ ran_for r.stopped.steps r.machine Allowance
  pub stops_there : step image r.machine ≡ stops r.stopped.reason

-- The same, seen from one step earlier.
stops_later : (image : Image) (m m' : Machine) (r : Ran) → step image m ≡ goes m' → StopsAt image m' r → StopsAt image m (later 1 r)
stops_later image m m' r e h = record {
  reached = ap (λ (n : ℕ). run n image m) (add_comm 1 r.stopped.steps ∙ add-one r.stopped.steps) ∙ run_goes r.stopped.steps image m m' e ∙ ap (later 1) h.reached;
  stops_there = h.stops_there;
}

pub stopping : (n : ℕ) (image : Image) (m : Machine) → ((run n image m).stopped.reason ≡ Allowance → ⊥) → StopsAt image m (run n image m)
unfolding run
stopping zero image m h = absurd (h refl)
stopping (suc n) image m h = go (step image m) refl (stopping n image)
  where
    go : (s : Step) → step image m ≡ s → ((x : Machine) → ((run n image x).stopped.reason ≡ Allowance → ⊥) → StopsAt image x (run n image x)) → StopsAt image m (run (suc n) image m)
    go (goes x) e ih =
        let k = run_goes n image m x e in
        rw k (stops_later image m x (run n image x) e (ih x (λ y. h (ap (λ (r : Ran). r.stopped.reason) k ∙ y))))
    go (stops reason) e ih = rw (run_stops n image m reason e) record { reached = refl; stops_there = e }
