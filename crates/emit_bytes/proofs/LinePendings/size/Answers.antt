use Rattle.std.proofs.Common.{rules, arith, ◌≡◌, ◌^◌, ◌≤◌, length, length-take, ap, ◌∙◌}
use Rattle.std.specs.List.{sum_by}
use Rattle.std.proofs.lemmas.Iterator.{YieldsList-from_slice}
use Rattle.std.proofs.lemmas.Iterator.Adapters.{fits_from_length, at_most_from_yields_List}
use Rattle.emit_pairs.specs.declared.InstructionPair.{InstructionPair}
use Rattle.emit_bytes.specs.Appended.{pair_len, pendings_len}
use Rattle.emit_bytes.proofs.AppendedLaws.{sizes_sum, sizes_most}
use Rattle.emit_bytes.proofs.LinePendings.size.Goals as goal

-- at most five pairs, each record shorter than the limit
pub sum-requires-clause-fits : goal.sum-requires-clause-fits
sum-requires-clause-fits c =
    let few : length c.pairs.result.now ≤ 5 = omega (arith, ap length c.pairs.ensures, length-take c.args.self.words.count c.args.self.words.instructions, c.args.self.words.few) in
    fits_from_length _ _ 5 (2 ^ 64) (at_most_from_yields_List (YieldsList-from_slice c.pairs.result.now cc) few) c.map.ensures.closure (omega arith) (λ x r q k. search rules)

pub returns : goal.returns
returns c =
    let tokens = c.args.self.tokens.now in
    let ps = c.pairs.result.now in
    let added : c.sum.result ≡ sum_by (λ (p : InstructionPair). pair_len tokens p.label) ps = search rules in
    let size = sizes_sum tokens ps in
    let most = sizes_most tokens ps c.args.self.short in (
      added ∙ size ∙ ap (pendings_len tokens) c.pairs.ensures,
      omega (arith, added, size, most, ap length c.pairs.ensures, length-take c.args.self.words.count c.args.self.words.instructions, c.args.self.words.few),
    )
