use Rattle.std.proofs.Common.{◌∙◌, arith}
use Rattle.linked_build.proofs.LinkedBuildLaws.{words_are, build_short, build_answered}
use Rattle.linked_build.proofs.build.Goals as goal

pub returns-then-answer-lt-ANSWER_BYTES : goal.returns-then-answer-lt-ANSWER_BYTES
returns-then-answer-lt-ANSWER_BYTES c = build_short _ _ _ _ _ _ (omega arith)

pub returns : goal.returns
returns c =
    let b = c.build_for-built.ensures in
    rw (c.store_answer.ensures.0) (build_answered _ _ _ _ _ _ _ _ _ _ (omega arith) b.answer_is b.bytes_are (c.answered_words-words.ensures ∙ words_are _) c.store_answer.ensures.1)
