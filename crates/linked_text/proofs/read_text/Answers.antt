use Rattle.std.proofs.Common.{◌∙◌, arith}
use Rattle.linked_text.proofs.LinkedTextLaws.{words_are, text_short, text_answered_lem}
use Rattle.linked_text.proofs.read_text.Goals as goal

pub returns-then-answer-lt-ANSWER_BYTES : goal.returns-then-answer-lt-ANSWER_BYTES
returns-then-answer-lt-ANSWER_BYTES c = text_short _ _ _ _ (omega arith)

pub returns : goal.returns
returns c = rw (c.store_answer.ensures.0) (text_answered_lem _ _ _ _ (omega arith) c.read_text-given.ensures (c.answered_words-words.ensures ∙ words_are _) c.store_answer.ensures.1)
