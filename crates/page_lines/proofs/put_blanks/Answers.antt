use Rattle.std.proofs.Common.{ap, arith, length}
use Rattle.page_outcome.specs.Page.{blanks}
use Rattle.page_outcome.proofs.LinesLaws.{blanks_length}
use Rattle.page_lines.proofs.PiecesLaws.{take_blanks}
use Rattle.page_lines.proofs.put_blanks.Goals as goal

pub put_text-requires : goal.put_text-requires
unfolding blanks
put_text-requires c =
    let t = take_blanks c.args.n 20 c.requires.0 in
    omega (arith, ap length t, blanks_length c.args.n, c.requires.1)

pub returns : goal.returns
unfolding blanks
returns c = rw (take_blanks c.args.n 20 c.requires.0) at c.put_text.ensures
