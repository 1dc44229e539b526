use Rattle.std.proofs.Common.{length, ap, arith, rules}
use Rattle.text.proofs.TextLaws.{last_most}
use Rattle.program.proofs.put_head.Goals as goal

pub push_number_line-requires : goal.push_number_line-requires
push_number_line-requires c = omega (arith, last_most c.args.number, ap length c.new-head.ensures)
