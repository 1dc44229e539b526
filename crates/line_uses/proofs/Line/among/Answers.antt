use Rattle.std.proofs.Common.{◌∙◌, rules, tests}
use Rattle.std.proofs.lemmas.Iterator.{YieldsList-from_slice}
use Rattle.std.proofs.lemmas.Iterator.Search.{any_from_yields_List}
use Rattle.emit_pairs.specs.declared.InstructionPair.{InstructionPair}
use Rattle.line_uses.specs.LineUses.{pair_has}
use Rattle.line_uses.proofs.HasLaws.{among_any}
use Rattle.line_uses.proofs.Line.among.Goals as goal

pub returns : goal.returns
returns c =
    let v = c.args.self.now in
    let key = c.args.key.now in
    let ps = c.args.before.now in
    any_from_yields_List (λ (p : InstructionPair). pair_has v.labels v.names key p.label) _ _ _ c.any.ensures.ran (YieldsList-from_slice ps cc) (λ x b q k. search (rules, tests)) ∙ among_any v.labels v.names key ps
