use Rattle.std.proofs.Common.{sym, ◌∙◌}
use Rattle.macro_tokens.proofs.PlacesLaws.{record_text, record_macros}
use Rattle.macro_tokens.proofs.token_at.Goals as goal

pub returns-then-place-source : goal.returns-then-place-source
returns-then-place-source c = c.token_of.ensures ∙ sym (record_text c.args.source.now.text.now c.args.source.now.macros.now c.args.place c.if-place-source.true)

pub returns-else-place-source : goal.returns-else-place-source
returns-else-place-source c =
    c.token_of-else-place-source.ensures ∙ sym (record_macros c.args.source.now.text.now c.args.source.now.macros.now c.args.place c.if-place-source.false)
