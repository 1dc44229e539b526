use Rattle.std.proofs.Common.{sym, ◌∙◌}
use Rattle.macro_tokens.proofs.PlacesLaws.{kind_text, kind_macros}
use Rattle.macro_tokens.proofs.kind_of.Goals as goal

pub returns-then-place-source : goal.returns-then-place-source
returns-then-place-source c = c.half_at.ensures.0 ∙ sym (kind_text c.args.source.now.text.now c.args.source.now.macros.now c.args.place c.requires c.if-place-source.true)

pub returns-else-place-source : goal.returns-else-place-source
returns-else-place-source c =
    c.half_at-else-place-source.ensures.0 ∙ sym (kind_macros c.args.source.now.text.now c.args.source.now.macros.now c.args.place c.requires c.if-place-source.false)
