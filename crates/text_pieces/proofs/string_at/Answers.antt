-- The counted bytes are the string's text if a quote closes it.
use Rattle.std.proofs.Common.{◌+◌, arith}
use Rattle.text_pieces.proofs.TextLaws.{length_rest}
use Rattle.text_pieces.proofs.QuotedLaws.{string_fits, string_long, string_bad, string_cut}
use Rattle.text_pieces.proofs.string_at.Goals.{then-end-place-via-then-end-place, then-end-place-via-else-end-place+then-place-end-ne34}
use Rattle.text_pieces.proofs.string_at.Goals as goal

pub returns-then-end-place : goal.returns-then-end-place
returns-then-end-place c =
    let e = c.text_len-len.ensures.0 in
    elim c.then-end-place.branch [
      | then-end-place-via-then-end-place w ↦ string_cut c.args.place.now.text.now c.args.place.now.at _ e (omega (arith, w.if-end-place.true))
      | then-end-place-via-else-end-place+then-place-end-ne34 w ↦
          string_bad c.args.place.now.text.now c.args.place.now.at _ e (omega (arith, length_rest c.args.place.now.text.now (c.args.place.now.at + 1), w.if-end-place.false)) w.if-place-end-ne34.true
    ]

pub returns-then-len-gt-LONGEST : goal.returns-then-len-gt-LONGEST
returns-then-len-gt-LONGEST c =
    string_long c.args.place.now.text.now c.args.place.now.at _ c.text_len-len.ensures.0 c.if-place-end-ne34.false c.if-len-gt-LONGEST.true

pub returns : goal.returns
returns c = string_fits c.args.place.now.text.now c.args.place.now.at _ c.text_len-len.ensures.0 c.if-place-end-ne34.false c.if-len-gt-LONGEST.false
