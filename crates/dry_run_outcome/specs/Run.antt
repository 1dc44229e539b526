-- A run with an allowance (document 02, P10). Assumes nothing.
use Rattle.std.specs.Prelude.{ℕ, zero, suc, ◌+◌, None, Option, Some}
use Rattle.reading.specs.Reading.{Image}
use Rattle.machine.specs.declared.Machine.{Machine}
use Rattle.machine.specs.declared.Reason.{Reason}
use Rattle.machine.specs.declared.Reason.TheVariants.{Allowance, Pc}
use Rattle.machine.specs.Step.{Step, goes, stops, step_word}
use Rattle.dry_run_outcome.specs.declared.Ran.{Ran}
use Rattle.dry_run_outcome.specs.Fetch.{fetch}

abbrev pub step_fetched : Option ℕ → Machine → Step
step_fetched None m = stops Pc
step_fetched (Some w) m = step_word w m

-- a step stops "on a pc without a whole word" before any word is looked at
unfoldable pub step : Image → Machine → Step
unfolding fetch step_word
step image m = step_fetched (fetch image m.pc) m

abbrev pub ended : Machine → Reason → Ran
ended m reason = record { machine = m; stopped = record { reason = reason; steps = 0 } }

-- the same run with n more steps counted, those taken before it began
abbrev pub later : ℕ → Ran → Ran
later n r = record { machine = r.machine; stopped = record { reason = r.stopped.reason; steps = n + r.stopped.steps } }

-- "The run stops when the allowance is used up, on a pc without a whole word, on another word ..., or on signed overflow of add, addi or sub;
-- they are looked at in that order and the stopping word changes nothing."
unfoldable pub run : (allowance : ℕ) → Image → Machine → Ran
unfolding step
run zero image m = ended m Allowance
run (suc n) image m = elim (step image m) [ goes m' ↦ later 1 (run n image m') | stops reason ↦ ended m reason ]

-- a run that ended after n steps
abbrev pub ran_for : ℕ → Machine → Reason → Ran
ran_for n m reason = record { machine = m; stopped = record { reason = reason; steps = n } }
