-- A run with allowance a + b is a run with a. If that one stops for its allowance, a run with b goes on from its state. Assumes nothing.
use Rattle.std.specs.Prelude.{ℕ, zero, suc, ◌+◌, ◌≡◌, refl}
use Rattle.std.proofs.Common.{zero-add, suc-add, sym, ap, ◌∙◌}
use Rattle.reading.specs.Reading.{Image}
use Rattle.machine.specs.declared.Machine.{Machine}
use Rattle.machine.specs.declared.Reason.{Reason}
use Rattle.machine.specs.declared.Reason.TheVariants.{Allowance, Pc, Word, Overflow}
use Rattle.machine.specs.Step.{Step, goes, stops}
use Rattle.dry_run_outcome.specs.declared.Ran.{Ran}
use Rattle.dry_run_outcome.specs.Run.{step, ended, later, run}
use Rattle.dry_run_outcome.proofs.RunLaws.{later_later, later_none, run_goes, run_stops, stops_otherwise}

abbrev pub go_on_by : Reason → Ran → (Machine → Ran) → Ran
go_on_by Allowance r k = later r.stopped.steps (k r.machine)
go_on_by Pc r k = r
go_on_by Word r k = r
go_on_by Overflow r k = r

-- If the first run stopped for its allowance, another goes on from there. Its steps are added.
abbrev pub go_on : Ran → (Machine → Ran) → Ran
go_on r k = go_on_by r.stopped.reason r k

later_go_on : (reason : Reason) (r : Ran) (k : Machine → Ran) → later 1 (go_on_by reason r k) ≡ go_on_by reason (later 1 r) k
later_go_on Allowance r k = later_later 1 r.stopped.steps (k r.machine)
later_go_on Pc r k = refl
later_go_on Word r k = refl
later_go_on Overflow r k = refl

-- a run that stopped stays as it is
ended_go_on : (reason : Reason) (m : Machine) (k : Machine → Ran) → (reason ≡ Allowance → ⊥) → ended m reason ≡ go_on_by reason (ended m reason) k
ended_go_on Allowance m k n = absurd (n refl)
ended_go_on Pc m k n = refl
ended_go_on Word m k n = refl
ended_go_on Overflow m k n = refl

pub run_split : (a b : ℕ) (image : Image) (m : Machine) → run (a + b) image m ≡ go_on (run a image m) (run b image)
unfolding run
run_split zero b image m = ap (λ (n : ℕ). run n image m) (zero-add b) ∙ sym (later_none (run b image m))
run_split (suc a) b image m = ap (λ (n : ℕ). run n image m) (suc-add a b) ∙ go (step image m) refl (run_split a b image)
  where
    go : (s : Step) → step image m ≡ s → ((x : Machine) → run (a + b) image x ≡ go_on (run a image x) (run b image))
        → run (suc (a + b)) image m ≡ go_on (run (suc a) image m) (run b image)
    go (goes x) e ih =
        run_goes (a + b) image m x e ∙ ap (later 1) (ih x) ∙ later_go_on (run a image x).stopped.reason (run a image x) (run b image)
        ∙ sym (ap (λ (r : Ran). go_on r (run b image)) (run_goes a image m x e))
    go (stops reason) e ih =
        run_stops (a + b) image m reason e ∙ ended_go_on reason m (run b image) (stops_otherwise image m reason e)
        ∙ sym (ap (λ (r : Ran). go_on r (run b image)) (run_stops a image m reason e))
