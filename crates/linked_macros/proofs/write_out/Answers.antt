use Rattle.std.proofs.Common.{◌∙◌, arith}
use Rattle.linked_macros.proofs.LinkedMacrosLaws.{words_are, macros_short, macros_answered_lem}
use Rattle.linked_macros.proofs.write_out.Goals as goal

pub returns-then-answer-lt-ANSWER_BYTES : goal.returns-then-answer-lt-ANSWER_BYTES
returns-then-answer-lt-ANSWER_BYTES c = macros_short _ _ _ _ (omega arith)

pub returns : goal.returns
returns c = rw (c.store_answer.ensures.0) (macros_answered_lem _ _ _ _ (omega arith) c.write_out-given.ensures (c.answered_words-words.ensures ∙ words_are _) c.store_answer.ensures.1)
