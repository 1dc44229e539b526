use Rattle.std.proofs.Common.{arith}
use Rattle.register_names.proofs.PaddedLaws.{list_key}
use Rattle.register_names.proofs.RegisterNamesLaws.{name_count}
use Rattle.register_names.proofs.RegisterNames.key_at.Goals as goal

pub returns : goal.returns
returns c = omega (arith, c.word_at.ensures, list_key _ c.args.place c.args.self.now.of_names (omega (arith, name_count)))
