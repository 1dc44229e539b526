use Rattle.std.proofs.Common.{sym, ◌∙◌}
use Rattle.macro_tokens.proofs.PlacesLaws.{place_own}
use Rattle.macro_tokens.proofs.place_at.Goals as goal

pub returns-else-half_at-eq-PARAMETER : goal.returns-else-half_at-eq-PARAMETER
returns-else-half_at-eq-PARAMETER c =
    sym (place_own c.args.reading.now.list.now c.args.reading.now.body c.args.at (λ e. c.if-half_at-eq-PARAMETER.false (c.half_at.ensures.0 ∙ e)))
