-- What the call that adds a line while patching runs promises: the answer, the caller's record and every lent byte. Assumes nothing.
use Rattle.std.specs.Prelude.{List, ◌≡◌, ℕ}
use Rattle.jobs.specs.declared.Job.{Job}
use Rattle.emit_outcome.specs.Answer.{EmitAnswer}
use Rattle.patching_outcome.specs.declared.PatchCounts.{PatchCounts}
use Rattle.patching_outcome.specs.Patching.{Patching, patching_of}
use Rattle.patching_outcome.specs.Line.{LineGiven, LineOutcome, line_outcome}

abbrev pub given_of : (tokens mnemonic descriptors : List ℕ) → (position region : ℕ) → LineGiven
given_of tokens mnemonic descriptors position region = record { token_list = tokens; mnemonic = mnemonic; descriptors = descriptors; position = position; region = region }

-- A line is lent no kept words: whatever they are, they stay as they were.
abbrev pub LinesTo : (Patching → LineOutcome) → (regions pending breakpoints : List ℕ) → PatchCounts → EmitAnswer → PatchCounts → (regions_after pending_after breakpoints_after : List ℕ) → Type 0
LinesTo outcome regions pending breakpoints counts answer counts_after regions_after pending_after breakpoints_after =
    (kept : List ℕ)
    → outcome (patching_of regions pending breakpoints kept counts) ≡ (record { answer = answer; after = patching_of regions_after pending_after breakpoints_after kept counts_after })

-- what `patch_line` promises
abbrev pub LineIs : Job → LineGiven → (regions pending breakpoints : List ℕ) → PatchCounts → EmitAnswer → PatchCounts → (regions_after pending_after breakpoints_after : List ℕ) → Type 0
LineIs job given = LinesTo (line_outcome job given)
