use Rattle.std.proofs.Common.{◌∙◌, arith}
use Rattle.linked_page.proofs.LinkedPageLaws.{words_are, page_short, page_answered_lem}
use Rattle.linked_page.proofs.lay_out.Goals as goal

pub returns-then-answer-lt-ANSWER_BYTES : goal.returns-then-answer-lt-ANSWER_BYTES
returns-then-answer-lt-ANSWER_BYTES c = page_short _ _ _ _ (omega arith)

pub returns : goal.returns
returns c = rw (c.store_answer.ensures.0) (page_answered_lem _ _ _ _ (omega arith) c.lay_out-given.ensures (c.answered_words-words.ensures ∙ words_are _) c.store_answer.ensures.1)
