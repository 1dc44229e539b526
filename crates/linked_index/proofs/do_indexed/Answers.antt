use Rattle.std.proofs.Common.{arith, length, le-leb, sym}
use Rattle.std.proofs.lemmas.Bool.{lt-leb}
use Rattle.linked_index.proofs.LinkedIndexLaws.{job_found, no_job, no_counts, indexed_short, indexed_answered_lem}
use Rattle.linked_index.proofs.do_indexed.Goals as goal

pub returns-then-answer-lt-ANSWER_BYTES : goal.returns-then-answer-lt-ANSWER_BYTES
returns-then-answer-lt-ANSWER_BYTES c = indexed_short _ _ _ _ _ _ _ _ _ _ (no_counts _ _ _ c.then-answer-lt-ANSWER_BYTES.either)

pub returns-in_default : goal.returns-in_default
returns-in_default c =
    indexed_short _ _ _ _ _ _ _ _ _ _
    (rw (le-leb 24 (length c.args.answer.now) (omega arith), le-leb 16 (length c.args.counts.now) (omega arith), lt-leb c.args.job 2 (no_job c.args.job (sym c.in_default.ensures))))

pub returns : goal.returns
returns c =
    let j = job_found c.args.job _ (sym c.in-Some.ensures) in
    rw (c.store_answer.ensures.0) (indexed_answered_lem _ _ _ _ _ _ _ _ _ _ _ _ (omega arith) (omega arith) j.0
    c.counts_at-filled.ensures j.1 c.do_indexed-given.ensures.outcome_is c.emitted_words-words.ensures c.put_counts.ensures c.store_answer.ensures.1)
