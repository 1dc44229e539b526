use Rattle.std.proofs.Common.{arith}
use Rattle.linked_answer.proofs.WordsLaws.{no_room}
use Rattle.linked_count.proofs.LinkedCountLaws.{count_short, count_answered_lem}
use Rattle.linked_count.proofs.count_forms.Goals as goal

pub returns-then-answer-lt-ANSWER_BYTES : goal.returns-then-answer-lt-ANSWER_BYTES
returns-then-answer-lt-ANSWER_BYTES c = count_short _ _ _ _ (no_room _ _ _ c.then-answer-lt-ANSWER_BYTES.either)

pub returns : goal.returns
returns c =
    rw (c.store_answer.ensures.0) (count_answered_lem _ _ _ _ (omega arith) (omega arith) c.count_forms-given.ensures c.counted_words-words.ensures
    c.put_form_counts.ensures c.store_answer.ensures.1)
