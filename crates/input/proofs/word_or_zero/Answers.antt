use Rattle.input.proofs.InputLaws.{word_from}
use Rattle.input.proofs.word_or_zero.Goals as goal

pub returns : goal.returns
returns c = word_from c.args.input.now c.args.at c.bytes_at.result c.map_or.result c.bytes_at.ensures c.map_or.ensures
