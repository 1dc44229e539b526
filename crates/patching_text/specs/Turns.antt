-- What the code promises of one turn of a script: the text that it prints, and what it leaves. Assumes nothing.
use Rattle.std.specs.Prelude.{ℕ, ◌≤◌, ◌≡◌, Bool, ◌&&◌, List, ◌++◌, leb, ltb, length}
use Rattle.jobs.specs.declared.Job.{Job}
use Rattle.patching_outcome.specs.declared.PatchCounts.{PatchCounts}
use Rattle.patching_outcome.specs.Patching.{Patching, patching_of}
use Rattle.patching_outcome.specs.Line.{LineGiven}
use Rattle.patching_text.specs.Script.{Turned, turn_byte, step_turn, line_turn, most_turns}

-- what a turn promises: it appends its text, at most 144 bytes, and leaves what its definition says
pub record Turns (t : Turned) (out out_after : List ℕ) (after : Patching) : Type 0 where
  pub pushed : out_after ≡ out ++ t.text
  pub short : length t.text ≤ 144
  pub left : t.after ≡ after

-- a step is lent no breakpoints, and a line no kept words
abbrev pub StepTurns : Job → (labels entry regions pending kept : List ℕ) → PatchCounts → (out out_after : List ℕ) → PatchCounts → (regions_after kept_after : List ℕ) → Type 0
StepTurns job labels entry regions pending kept counts out out_after counts_after regions_after kept_after =
    (breakpoints : List ℕ)
    → Turns (step_turn job labels entry (patching_of regions pending breakpoints kept counts)) out out_after (patching_of regions_after pending breakpoints kept_after counts_after)

abbrev pub LineTurns : Job → LineGiven → (regions pending breakpoints : List ℕ) → PatchCounts → (out out_after : List ℕ) → PatchCounts → (regions_after pending_after breakpoints_after : List ℕ) → Type 0
LineTurns job line regions pending breakpoints counts out out_after counts_after regions_after pending_after breakpoints_after =
    (kept : List ℕ)
    → Turns (line_turn job line (patching_of regions pending breakpoints kept counts)) out out_after (patching_of regions_after pending_after breakpoints_after kept counts_after)

-- whether there is a next turn
abbrev pub goes_on : (turns : ℕ) → List ℕ → Bool
goes_on turns s = ltb turns most_turns && leb (turn_byte s) 1
