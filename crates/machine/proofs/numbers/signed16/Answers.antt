use Rattle.std.proofs.Common.{ap, ◌∙◌, rules, SFits, of_z}
use Rattle.std.specs.Int.{w16, w32}
use Rattle.std.proofs.Math.Facts.{to_z-of_z}
use Rattle.machine.proofs.CastsLaws.{signed16_is}
use Rattle.machine.proofs.numbers.signed16.Goals as goal

pub returns : goal.returns
returns c =
    let narrow : SFits w16 c.cast_signed.result = search rules in
    let wide : SFits w32 c.from.result = search rules in
    c.cast_unsigned.ensures
    ∙ ap (of_z w32) (to_z-of_z wide ∙ c.from.ensures ∙ to_z-of_z narrow ∙ c.cast_signed.ensures)
    ∙ signed16_is c.args.n c.requires
