-- A whole dry run: its answer and its state, from the region list, the registers, the pc and the allowance (document 02, P10). Assumes nothing.
use Rattle.std.specs.Prelude.{ℕ, ◌%◌, List, Bool, true, false, ◌&&◌, cond, eqb, set, Err, None, Ok, Option, Some, Result}
use Rattle.refusal.specs.Verdicts.{and_then, layout_verdict, Verdict}
use Rattle.refusal.specs.declared.Refusal.TheVariants.{BadStart}
use Rattle.regions.specs.Regions.{region_layout}
use Rattle.reading.specs.Reading.{Image, image_of}
use Rattle.machine.specs.declared.Machine.{Machine}
use Rattle.machine.specs.Step.{at}
use Rattle.dry_run_outcome.specs.declared.Ran.{Ran}
use Rattle.machine.specs.declared.Reason.{Reason}
use Rattle.dry_run_outcome.specs.declared.Stopped.{Stopped}
use Rattle.dry_run_outcome.specs.declared.DryRun.{DryRun}
use Rattle.dry_run_outcome.specs.Fetch.{fetch}
use Rattle.dry_run_outcome.specs.Run.{run}
use Rattle.refusal.specs.declared.Refusal.{Refusal}

-- ---- the checks in order: 1, 28

abbrev pub is_word : Option ℕ → Bool
is_word (Some w) = true
is_word None = false

-- "28, a starting pc that is no multiple of four or has no whole word, before the first step"
abbrev pub can_start : Image → ℕ → Bool
can_start image pc = eqb (pc % 4) 0 && is_word (fetch image pc)

abbrev pub start_verdict : Image → ℕ → Verdict
start_verdict image pc = cond (can_start image pc) (Ok tt) (Err BadStart)

abbrev pub dry_run_verdict : (regions : List ℕ) → ℕ → Verdict
dry_run_verdict regions pc = and_then (layout_verdict 0 (region_layout regions)) (start_verdict (image_of regions) pc)

-- ---- the whole run

-- "$zero always 0": a value given for it is ignored
abbrev pub started : Machine → Machine
started m = at m.pc (set m.registers 0 0)

abbrev pub RunAnswer : Type 0
RunAnswer = Result Stopped Refusal

abbrev pub stopped : Reason → (steps : ℕ) → RunAnswer
stopped reason steps = Ok (record { reason = reason; steps = steps })

-- "It returns state, reason and the number of steps taken"
abbrev pub outcome_by : Verdict → Machine → Ran → DryRun
outcome_by (Ok tt) m r = record { machine = r.machine; answer = Ok r.stopped }
outcome_by (Err refusal) m r = record { machine = m; answer = Err refusal }

unfoldable pub dry_run_outcome : (regions : List ℕ) → Machine → (allowance : ℕ) → DryRun
unfolding region_layout image_of fetch run
dry_run_outcome regions m allowance = outcome_by (dry_run_verdict regions m.pc) m (run allowance (image_of regions) (started m))

abbrev pub refused_run : Machine → Refusal → DryRun
refused_run m refusal = record { machine = m; answer = Err refusal }
