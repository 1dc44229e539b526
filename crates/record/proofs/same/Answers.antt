use Rattle.std.proofs.Common.{◌∙◌}
use Rattle.record.proofs.BytesLaws.{same_list}
use Rattle.record.proofs.same.Goals as goal

pub returns : goal.returns
returns c = c.eq.ensures ∙ same_list c.args.a.now c.args.b.now
