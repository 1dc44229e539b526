use Rattle.input.proofs.InputLaws.{half_from}
use Rattle.input.proofs.half_or_zero.Goals as goal

pub returns : goal.returns
returns c = half_from c.args.input.now c.args.at c.bytes_at.result c.map_or.result c.bytes_at.ensures c.map_or.ensures
