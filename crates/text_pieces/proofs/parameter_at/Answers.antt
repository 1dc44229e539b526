-- The counted letters and digits are the name; there must be at least one.
use Rattle.text_pieces.proofs.WordLaws.{parameter_none, parameter_fits, parameter_long}
use Rattle.text_pieces.proofs.parameter_at.Goals.{then-len-eq0-via-then-len-eq0, then-len-eq0-via-else-len-eq0+then-len-gt-LONGEST}
use Rattle.text_pieces.proofs.parameter_at.Goals as goal

pub returns-then-len-eq0 : goal.returns-then-len-eq0
returns-then-len-eq0 c =
    let e = c.word_len-len.ensures.0 in
    elim c.then-len-eq0.branch [
      | then-len-eq0-via-then-len-eq0 w ↦ parameter_none c.args.place.now.text.now c.args.place.now.at _ e w.if-len-eq0.true
      | then-len-eq0-via-else-len-eq0+then-len-gt-LONGEST w ↦ parameter_long c.args.place.now.text.now c.args.place.now.at _ e w.if-len-eq0.false w.if-len-gt-LONGEST.true
    ]

pub returns : goal.returns
returns c = parameter_fits c.args.place.now.text.now c.args.place.now.at _ c.word_len-len.ensures.0 c.if-len-eq0.false c.if-len-gt-LONGEST.false
