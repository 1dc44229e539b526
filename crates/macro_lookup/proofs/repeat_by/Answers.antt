use Rattle.std.proofs.Common.{arith}
use Rattle.std.proofs.lemmas.List.{length-replicate}
use Rattle.macro_lookup.proofs.TogetherLaws.{macros_named}
use Rattle.macro_lookup.proofs.RepeatLaws.{macros_good}
use Rattle.macro_lookup.proofs.repeat_by.Goals as goal

pub new-list-requires : goal.new-list-requires
new-list-requires g c = (omega arith, macros_named _ c.args.macros.now.good)

pub make-index-requires : goal.make-index-requires
make-index-requires g c =
    let m = macros_good _ c.args.macros.now.good in
    rw c.new-list.ensures (omega arith, (omega arith, (m.0, (rw length-replicate (c.requires.1), rw length-replicate (c.requires.1)))))
