use Rattle.patching_line.proofs.EmitLaws.{nowhere_is}
use Rattle.patching_line.proofs.emit_nowhere.Goals as goal

pub returns : goal.returns
returns c = nowhere_is _ _ _ _ _ _ c.args.counts _ _ _ _ _ _ c.do_job-out.ensures.outcome_is
