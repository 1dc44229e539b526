use Rattle.std.proofs.Common.{arith}
use Rattle.linked_answer.proofs.WordsLaws.{no_room}
use Rattle.patching_line.specs.Contract.{given_of}
use Rattle.linked_patching.proofs.LinkedPatchingLaws.{line_short, line_answered_lem}
use Rattle.linked_patching.proofs.patch_line.Goals as goal

pub returns-then-answer-lt-ANSWER_BYTES : goal.returns-then-answer-lt-ANSWER_BYTES
returns-then-answer-lt-ANSWER_BYTES c = line_short _ _ _ _ _ _ _ (no_room _ _ _ c.then-answer-lt-ANSWER_BYTES.either)

pub returns : goal.returns
returns c =
    let a = c.args in
    rw (c.store_answer.ensures.0) (line_answered_lem a.job (given_of a.tokens.now a.mnemonic.now a.descriptors.now a.position a.region) a.regions.now a.pending.now a.breakpoints.now a.state.now a.answer.now _
    (omega arith) (omega arith) c.state_at-counts.ensures c.patch_line-lined.ensures c.emitted_words-words.ensures c.put_state.ensures c.store_answer.ensures.1)
