-- What the linked calls of patching return, and what they leave in their lent buffers. Assumes nothing.
use Rattle.std.specs.Prelude.{ℕ, List, [], ◌∷◌, true, false, ◌&&◌, pos, length, leb, Err, Ok}
use Rattle.jobs.specs.declared.Job.{Job}
use Rattle.record.specs.Bytes.{le32}
use Rattle.record.specs.Stores.{append}
use Rattle.refusal.specs.Numbers.{zero_location, numbered}
use Rattle.labels.specs.Labels.{table_of}
use Rattle.linked_line.specs.LineWords.{emitted_words}
use Rattle.linked_answer.specs.Words.{answer_bytes, too_short, answer_words, number_of, words_as_bytes}
use Rattle.patching_outcome.specs.declared.PatchCounts.{PatchCounts}
use Rattle.patching_outcome.specs.declared.Progress.TheVariants.{Patched, Ended}
use Rattle.patching_outcome.specs.Patching.{patching_of}
use Rattle.patching_outcome.specs.Step.{StepAnswer, StepOutcome, step_outcome}
use Rattle.patching_outcome.specs.Line.{LineGiven, LineOutcome, line_outcome}

-- ---- the caller's record: five numbers of four bytes
abbrev pub state_bytes : ℕ
state_bytes = 20

abbrev pub state_at : List ℕ → PatchCounts
state_at state = record { regions = le32 state 0; pending = le32 state 4; breakpoints = le32 state 8; patches = le32 state 12; state = le32 state 16 }

abbrev pub state_words : PatchCounts → List ℕ
state_words c = c.regions ∷ c.pending ∷ c.breakpoints ∷ c.patches ∷ c.state ∷ []

-- ---- a step
-- Number 0 is a step that was not refused: a is 0 and the last word is the count of pendings patched, or a is 1 and the last word is the entry
-- (docs/DECISIONS.md). A refusal gives, like a refused build, "its number, a location and numbers a and b", and the last word 0.
abbrev pub step_words : StepAnswer → List ℕ
step_words (Ok (Patched patches)) = answer_words 0 zero_location (pos 0) 0 patches
step_words (Ok (Ended entry)) = answer_words 0 zero_location (pos 1) 0 entry
step_words (Err r) = let n = numbered r in answer_words n.number n.location n.a n.b 0

pub record LinkedStep : Type 0 where
  pub result : ℕ
  pub regions : List ℕ
  pub kept : List ℕ
  pub state : List ℕ
  pub answer : List ℕ

abbrev pub step_answered : StepOutcome → (state answer : List ℕ) → LinkedStep
step_answered outcome state answer =
    let words = step_words outcome.answer in
    record {
      result = number_of words;
      regions = outcome.after.regions;
      kept = outcome.after.kept;
      state = append state 0 (words_as_bytes (state_words outcome.after.counts));
      answer = append answer 0 (words_as_bytes words);
    }

-- nothing is done if the answer has fewer than 24 bytes or the record fewer than 20; a step is lent no breakpoints
unfoldable pub linked_step : Job → (labels entry regions pending kept state answer : List ℕ) → LinkedStep
linked_step job labels entry regions pending kept state answer =
    elim (leb answer_bytes (length answer) && leb state_bytes (length state)) [
      | true ↦ step_answered (step_outcome job (table_of labels) entry (patching_of regions pending [] kept (state_at state))) state answer
      | false ↦ record { result = too_short; regions = regions; kept = kept; state = state; answer = answer }
    ]

-- ---- a line
pub record LinkedPatchLine : Type 0 where
  pub result : ℕ
  pub regions : List ℕ
  pub pending : List ℕ
  pub breakpoints : List ℕ
  pub state : List ℕ
  pub answer : List ℕ

abbrev pub line_answered : LineOutcome → (state answer : List ℕ) → LinkedPatchLine
line_answered outcome state answer =
    let words = emitted_words outcome.answer in
    record {
      result = number_of words;
      regions = outcome.after.regions;
      pending = outcome.after.pending;
      breakpoints = outcome.after.breakpoints;
      state = append state 0 (words_as_bytes (state_words outcome.after.counts));
      answer = append answer 0 (words_as_bytes words);
    }

-- nothing is done if the answer has fewer than 24 bytes or the record fewer than 20; a line is lent no kept words
unfoldable pub linked_patch_line : Job → LineGiven → (regions pending breakpoints state answer : List ℕ) → LinkedPatchLine
linked_patch_line job given regions pending breakpoints state answer =
    elim (leb answer_bytes (length answer) && leb state_bytes (length state)) [
      | true ↦ line_answered (line_outcome job given (patching_of regions pending breakpoints [] (state_at state))) state answer
      | false ↦ record { result = too_short; regions = regions; pending = pending; breakpoints = breakpoints; state = state; answer = answer }
    ]
