use Rattle.std.proofs.Common.{arith}
use Rattle.linked_answer.proofs.WordsLaws.{no_room}
use Rattle.linked_patching.proofs.LinkedPatchingLaws.{step_short, step_answered_lem}
use Rattle.linked_patching.proofs.patch_step.Goals as goal

pub returns-then-answer-lt-ANSWER_BYTES : goal.returns-then-answer-lt-ANSWER_BYTES
returns-then-answer-lt-ANSWER_BYTES c = step_short _ _ _ _ _ _ _ _ (no_room _ _ _ c.then-answer-lt-ANSWER_BYTES.either)

pub returns : goal.returns
returns c =
    rw (c.store_answer.ensures.0) (step_answered_lem _ _ _ _ _ _ _ _ _ (omega arith) (omega arith) c.state_at-counts.ensures c.patch_step-stepped.ensures
    c.step_words-words.ensures c.put_state.ensures c.store_answer.ensures.1)
