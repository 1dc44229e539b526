use Rattle.std.proofs.Common.{arith}
use Rattle.macro_lookup.proofs.RepeatLaws.{macro_count, macros_good}
use Rattle.macro_lookup.proofs.first_repeat.Goals as goal

pub repeat_by-requires : goal.repeat_by-requires
repeat_by-requires c = (omega arith, omega (arith, macro_count c.args.macros.now.bytes.now c.args.macros.now.good))

pub repeat_by-requires-else-macros : goal.repeat_by-requires-else-macros
repeat_by-requires-else-macros c =
    let n = macro_count c.args.macros.now.bytes.now c.args.macros.now.good in
    let g = (macros_good c.args.macros.now.bytes.now c.args.macros.now.good).0 in
    (omega arith, omega (arith, n, g))
