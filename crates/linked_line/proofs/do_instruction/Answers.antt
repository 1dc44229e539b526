use Rattle.std.proofs.Common.{arith}
use Rattle.linked_answer.proofs.WordsLaws.{no_room}
use Rattle.linked_line.proofs.LinkedLineLaws.{line_short, line_answered_lem}
use Rattle.linked_line.proofs.do_instruction.Goals as goal

pub returns-then-answer-lt-ANSWER_BYTES : goal.returns-then-answer-lt-ANSWER_BYTES
returns-then-answer-lt-ANSWER_BYTES c = line_short _ _ _ _ _ _ _ _ (no_room _ _ _ c.then-answer-lt-ANSWER_BYTES.either)

pub returns : goal.returns
returns c =
    rw (c.store_answer.ensures.0) (line_answered_lem _ _ _ _ _ _ _ _ _ (omega arith) (omega arith) c.counts_at-filled.ensures c.do_job-given.ensures.outcome_is
    c.emitted_words-words.ensures c.put_counts.ensures c.store_answer.ensures.1)
