-- The counted bytes are the comment's text if the line ends behind them.
use Rattle.std.proofs.Common.{sym, ◌∙◌}
use Rattle.text_pieces.proofs.QuotedLaws.{comment_fits, comment_long, comment_bad}
use Rattle.text_pieces.proofs.comment_at.Goals as goal

pub returns-then-not-line_ends : goal.returns-then-not-line_ends
returns-then-not-line_ends c =
    comment_bad c.args.place.now.text.now c.args.place.now.at _ c.text_len-len.ensures.0 (sym c.line_ends.ensures ∙ c.if-not-line_ends.true)

pub returns-then-len-gt-LONGEST : goal.returns-then-len-gt-LONGEST
returns-then-len-gt-LONGEST c =
    comment_long c.args.place.now.text.now c.args.place.now.at _ c.text_len-len.ensures.0 (sym c.line_ends.ensures ∙ c.if-not-line_ends.false) c.if-len-gt-LONGEST.true

pub returns : goal.returns
returns c =
    comment_fits c.args.place.now.text.now c.args.place.now.at _ c.text_len-len.ensures.0 (sym c.line_ends.ensures ∙ c.if-not-line_ends.false) c.if-len-gt-LONGEST.false
