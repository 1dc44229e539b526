use Rattle.std.proofs.Common.{◌∙◌}
use Rattle.linked_index.proofs.LinkedIndexLaws.{words_are, make_short, make_answered_lem}
use Rattle.linked_index.proofs.make_index.Goals as goal

pub returns-then-answer-lt-ANSWER_BYTES : goal.returns-then-answer-lt-ANSWER_BYTES
returns-then-answer-lt-ANSWER_BYTES c = make_short _ _ _ _ _ c.if-answer-lt-ANSWER_BYTES.true

pub returns : goal.returns
returns c =
    rw (c.store_answer.ensures.0) (make_answered_lem _ _ _ _ _ c.if-answer-lt-ANSWER_BYTES.false c.make_index-given.ensures (c.answered_words-words.ensures ∙ words_are _)
    c.store_answer.ensures.1)
