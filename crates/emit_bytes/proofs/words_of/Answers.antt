use Rattle.std.proofs.Common.{◌≡◌, rules, arith, length, []}
use Rattle.emit_pairs.specs.Pairs.{plain}
use Rattle.emit_bytes.proofs.AppendedLaws.{words_are}
use Rattle.emit_bytes.proofs.words_of.Goals as goal

pub returns : goal.returns
returns c =
    let five : length c.args.instructions ≡ 5 = search rules in
    words_are c.args.instructions c.map.result (omega (arith, five, c.map.ensures.items.long)) (λ i h.
    let made = (c.map.ensures.items.at i (plain 0) [] (omega (arith, five, h))).2 in
    search rules)
