use Rattle.std.proofs.Common.{arith}
use Rattle.linked_label.proofs.LinkedLabelLaws.{find_short, find_answered_lem}
use Rattle.linked_label.proofs.find_label.Goals as goal

pub returns-then-answer-lt-ANSWER_BYTES : goal.returns-then-answer-lt-ANSWER_BYTES
returns-then-answer-lt-ANSWER_BYTES c = find_short _ _ _ _ (omega arith)

pub returns : goal.returns
returns c =
    rw (c.store_answer.ensures.0) (find_answered_lem _ _ _ _ (omega arith) c.find_label-given.ensures.answer_is c.find_words-words.ensures c.store_answer.ensures.1)
