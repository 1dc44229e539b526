-- Laws of the linked calls of patching: too short a buffer, and an answered call. Assumes nothing.
use Rattle.patching_outcome.specs.Step.{StepAnswer}
use Rattle.std.specs.Prelude.{ℕ, ◌≤◌, ◌≡◌, List, [], false, ◌&&◌, length, leb}
use borrow.Author.Tests.{le-leb}
use Rattle.jobs.specs.declared.Job.{Job}
use Rattle.record.specs.Stores.{append}
use Rattle.labels.specs.Labels.{table_of}
use Rattle.linked_line.specs.LineWords.{emitted_words}
use Rattle.linked_answer.specs.Words.{answer_bytes, too_short, number_of, words_as_bytes}
use Rattle.patching_outcome.specs.declared.PatchCounts.{PatchCounts}
use Rattle.patching_outcome.specs.Contract.{StepIs}
use Rattle.patching_outcome.specs.Line.{LineGiven}
use Rattle.emit_outcome.specs.Answer.{EmitAnswer}
use Rattle.patching_line.specs.Contract.{LineIs}
use Rattle.linked_patching.specs.LinkedPatching.{state_bytes, state_at, state_words, step_words, linked_step, linked_patch_line}

module _ (job : Job) (labels entry regions pending kept state answer : List ℕ) where
  pub step_short : (leb answer_bytes (length answer) && leb state_bytes (length state)) ≡ false
      → linked_step job labels entry regions pending kept state answer ≡ (record { result = too_short; regions = regions; kept = kept; state = state; answer = answer })
  unfolding linked_step
  step_short e = rw (e, linked_step)

  pub step_answered_lem : {given : StepAnswer} {left : PatchCounts} {regions' kept' words state' answer' : List ℕ} (c : PatchCounts) → answer_bytes ≤ length answer → state_bytes ≤ length state
      → c ≡ state_at state → StepIs job (table_of labels) entry regions pending kept c given left regions' kept'
      → words ≡ step_words given → state' ≡ append state 0 (words_as_bytes (state_words left)) → answer' ≡ append answer 0 (words_as_bytes words)
      → linked_step job labels entry regions pending kept state answer ≡ (record { result = number_of words; regions = regions'; kept = kept'; state = state'; answer = answer' })
  unfolding linked_step
  step_answered_lem c h k e o w n a = rw (le-leb answer_bytes (length answer) h, le-leb state_bytes (length state) k, linked_step, a, n, w, ← e, o [])

module _ (job : Job) (line : LineGiven) (regions pending breakpoints state answer : List ℕ) where
  pub line_short : (leb answer_bytes (length answer) && leb state_bytes (length state)) ≡ false
      → linked_patch_line job line regions pending breakpoints state answer
      ≡ (record { result = too_short; regions = regions; pending = pending; breakpoints = breakpoints; state = state; answer = answer })
  unfolding linked_patch_line
  line_short e = rw (e, linked_patch_line)

  pub line_answered_lem : {given : EmitAnswer} {left : PatchCounts} {regions' pending' breakpoints' words state' answer' : List ℕ} (c : PatchCounts) → answer_bytes ≤ length answer → state_bytes ≤ length state
      → c ≡ state_at state → LineIs job line regions pending breakpoints c given left regions' pending' breakpoints'
      → words ≡ emitted_words given → state' ≡ append state 0 (words_as_bytes (state_words left)) → answer' ≡ append answer 0 (words_as_bytes words)
      → linked_patch_line job line regions pending breakpoints state answer
      ≡ (record { result = number_of words; regions = regions'; pending = pending'; breakpoints = breakpoints'; state = state'; answer = answer' })
  unfolding linked_patch_line
  line_answered_lem c h k e o w n a = rw (le-leb answer_bytes (length answer) h, le-leb state_bytes (length state) k, linked_patch_line, a, n, w, ← e, o [])
