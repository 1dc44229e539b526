use Rattle.std.proofs.Common.{arith}
use Rattle.byte_class.proofs.TableLaws.{letter_at}
use Rattle.byte_class.proofs.ByteClasses.letter_of.Goals as goal

pub returns : goal.returns
returns c = rw c.from.ensures (letter_at _ c.args.byte c.args.self.now.of_bytes (omega arith))
