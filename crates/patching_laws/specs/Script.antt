-- A script: steps and lines one after the other, "each call to get what the last left" (document 02, P12). Assumes nothing.
use Rattle.std.specs.Prelude.{Ok, Err, ℕ}
use mathlib.Core.List.{List, [], ◌∷◌, ◌++◌}
use Rattle.jobs.specs.declared.Job.{Job}
use Rattle.labels.specs.Labels.{Table}
use Rattle.emit_outcome.specs.Answer.{EmitAnswer}
use Rattle.patching_outcome.specs.Patching.{Patching}
use Rattle.patching_outcome.specs.Step.{step_outcome}
use Rattle.patching_outcome.specs.Line.{LineGiven, line_outcome}

-- a line may be emitted for any sort of job
pub data Turn : Type 0 where
  Step : Turn
  Line : Job → LineGiven → Turn

-- "with the label table fixed at the start", and so are the entry record and the steps' job
module _ (job : Job) (labels : Table) (entry : List ℕ) where
  abbrev pub turn : Turn → Patching → Patching
  turn Step p = (step_outcome job labels entry p).after
  turn (Line of g) p = (line_outcome of g p).after

  unfoldable pub run : List Turn → Patching → Patching
  unfolding step_outcome line_outcome
  run [] p = p
  run (t ∷ ts) p = run ts (turn t p)

  abbrev pub if_done : EmitAnswer → Turn → List Turn
  if_done (Ok done) t = t ∷ []
  if_done (Err refused) t = []

  -- the accepted lines of a script
  abbrev pub accepted_turn : Turn → Patching → List Turn
  accepted_turn Step p = []
  accepted_turn (Line of g) p = if_done (line_outcome of g p).answer (Line of g)

  unfoldable pub accepted_lines : List Turn → Patching → List Turn
  unfolding step_outcome line_outcome
  accepted_lines [] p = []
  accepted_lines (t ∷ ts) p = accepted_turn t p ++ accepted_lines ts (turn t p)

  -- "all accepted lines first"
  unfoldable pub lines_first : List Turn → Patching → Patching
  unfolding run accepted_lines
  lines_first ts p = run (accepted_lines ts p) p
