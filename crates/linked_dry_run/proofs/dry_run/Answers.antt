use Rattle.std.proofs.Common.{ℕ, List, ap, ◌∙◌, arith}
use Rattle.linked_answer.proofs.WordsLaws.{no_room}
use Rattle.dry_run_outcome.specs.DryRun.{dry_run_outcome}
use Rattle.linked_dry_run.proofs.LinkedDryRunLaws.{run_short, run_answered_lem}
use Rattle.linked_dry_run.proofs.dry_run.Goals as goal

pub returns-then-answer-lt-ANSWER_BYTES : goal.returns-then-answer-lt-ANSWER_BYTES
returns-then-answer-lt-ANSWER_BYTES c = run_short _ _ _ _ _ (no_room _ _ _ c.then-answer-lt-ANSWER_BYTES.either)

pub returns : goal.returns
returns c =
    let a = c.args in
    rw (c.store_answer.ensures.0) (run_answered_lem _ _ _ _ _ (omega arith) (omega arith)
    (c.dry_run-run.ensures ∙ ap (λ (g : List ℕ). dry_run_outcome a.regions.now (record { pc = a.pc; registers = g }) a.allowance) c.registers_in-held.ensures)
    c.run_words-words.ensures c.put_registers.ensures c.store_answer.ensures.1)
