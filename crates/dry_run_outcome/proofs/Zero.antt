-- $zero is 0 at every state. Assumes nothing.
use Rattle.std.specs.Prelude.{ℕ, ◌≡◌, refl, [], ◌∷◌, set}
use Rattle.std.proofs.Common.{sym}
use Rattle.reading.specs.Reading.{Image}
use Rattle.loading.specs.Run.{Registers}
use Rattle.machine.specs.declared.Machine.{Machine}
use Rattle.machine.specs.Step.{goes, Zero}
use Rattle.machine.proofs.StepLaws.{HoldsZero, word_zero}
use Rattle.dry_run_outcome.specs.Run.{step, run}
use Rattle.dry_run_outcome.proofs.RunLaws.{step_keeps, run_keeps}
use Rattle.dry_run_outcome.specs.DryRun.{started}

pub step_zero : (image : Image) (m m' : Machine) → step image m ≡ goes m' → HoldsZero m → HoldsZero m'
step_zero = step_keeps HoldsZero word_zero

-- $zero is 0 after any number of steps.
pub run_zero : (n : ℕ) (image : Image) (m : Machine) → HoldsZero m → HoldsZero (run n image m).machine
run_zero = run_keeps HoldsZero word_zero

-- Storing a 0 where one stands changes nothing.
pub set_held : (g : Registers) → Zero g → set g 0 0 ≡ g
set_held [] z = refl
set_held (x ∷ g) z = rw (sym z)

set_zero : (g : Registers) → Zero (set g 0 0)
set_zero [] = refl
set_zero (x ∷ g) = refl

-- A dry run starts with 0 in $zero, whatever was given for it.
pub started_zero : (m : Machine) → HoldsZero (started m)
started_zero m = set_zero m.registers
