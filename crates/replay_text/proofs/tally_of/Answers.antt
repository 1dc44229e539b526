use Rattle.std.specs.Prelude.{true, false}
use Rattle.replay_text.proofs.ReplayLaws.{tally_first, tally_next}
use Rattle.replay_text.proofs.tally_of.Goals as goal
use Rattle.replay_text.proofs.tally_of.Goals.{then-not-is_met, else-not-is_met}

pub loop-i-init : goal.loop-i-init
loop-i-init c = tally_first c.args.builds c.args.input.now

pub loop-i-preserved : goal.loop-i-preserved
loop-i-preserved c =
    let l = c.loop-i in
    elim c.if-not-is_met.branch [
      | then-not-is_met w ↦ rw w.tally-is (tally_next c.args.builds l.i c.args.input.now l.tally false l.invariant w.if-not-is_met.ensures)
      | else-not-is_met w ↦ rw w.tally-is (tally_next c.args.builds l.i c.args.input.now l.tally true l.invariant w.if-not-is_met.ensures)
    ]
