-- The counted letters and digits are the text.
use Rattle.text_pieces.proofs.WordLaws.{symbol_fits, symbol_long}
use Rattle.text_pieces.proofs.symbol_at.Goals as goal

pub returns-then-len-gt-LONGEST : goal.returns-then-len-gt-LONGEST
returns-then-len-gt-LONGEST c = symbol_long c.args.place.now.text.now c.args.place.now.at _ c.word_len-len.ensures.0 c.if-len-gt-LONGEST.true

pub returns : goal.returns
returns c = symbol_fits c.args.place.now.text.now c.args.place.now.at _ c.word_len-len.ensures.0 c.if-len-gt-LONGEST.false
