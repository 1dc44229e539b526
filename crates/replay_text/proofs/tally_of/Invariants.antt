use Rattle.replay_text.proofs.ReplayLaws.{Tallied}
use Rattle.replay_text.proofs.tally_of.Given as goal

abbrev pub invariant-loop-i : goal.invariant-loop-i
invariant-loop-i l = Tallied l.builds l.i l.input l.tally
