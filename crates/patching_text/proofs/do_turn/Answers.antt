use Rattle.std.proofs.Common.{sym, ◌∙◌, arith}
use Rattle.input.proofs.InputLaws.{rest_is}
use Rattle.patching_text.proofs.TurnsLaws.{byte_there, turn_step, turn_line}
use Rattle.patching_text.proofs.do_turn.Goals as goal

pub returns-then-script-eq-STEP : goal.returns-then-script-eq-STEP
returns-then-script-eq-STEP g c =
    let s = c.args.script.now in
    turn_step _ _ s _ (sym (byte_there s (omega arith)) ∙ c.if-script-eq-STEP.true) (c.do_step.ensures _)

pub returns : goal.returns
returns g c =
    let s = c.args.script.now in
    turn_line _ _ s _ (λ e. c.if-script-eq-STEP.false (byte_there s (omega arith) ∙ e))
    (rw (rest_is s 1 1 (omega arith)) at (c.do_line.ensures c.args.kept.now))
