use Rattle.std.proofs.Common.{arith}
use Rattle.record.proofs.StoresLaws.{one_store}
use Rattle.text.proofs.lent.put_byte.Goals as goal

pub returns : goal.returns
returns c =
    record { fits = omega arith; ends = omega arith; bytes = one_store c.args.out.now c.args.at c.args.byte (omega arith) }
