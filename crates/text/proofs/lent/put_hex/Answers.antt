use Rattle.std.proofs.Common.{◌≡◌, length-take, arith}
use Rattle.text.proofs.TextLaws.{width_fits}
use Rattle.text.proofs.lent.put_hex.Goals as goal
use Rattle.text.proofs.lent.put_hex.Goals.{After-hex-k}

-- The number has no more digits than the width, so exactly the width's count of digits is written.
count_is : (c : After-hex-k) → c.hex-k.result ≡ c.args.width
count_is c =
    let p = c.requires.width_nonzero in
    width_fits c.args.width c.args.n c.hex-k.result p.0 p.1 p.2 (rw c.from.ensures at c.hex-k.ensures.len)

pub put_text-requires : goal.put_text-requires
put_text-requires c =
    let k = count_is (goal.at.put_text-requires c).After-hex-k in
    simp length-take (omega arith)

pub returns : goal.returns
returns c = rw (c.hex-k.ensures.digits, count_is (goal.at.returns c).After-hex-k, c.from.ensures) at c.put_text.ensures
