use Rattle.std.specs.Prelude.{not}
use Rattle.std.proofs.Common.{rules, tests}
use Rattle.std.proofs.lemmas.Iterator.{YieldsList-from_slice}
use Rattle.std.proofs.lemmas.Iterator.Search.{position_from_yields_List}
use Rattle.text_pieces.specs.Leading.{plain}
use Rattle.text_pieces.proofs.LeadingLaws.{leading_position}
use Rattle.text_pieces.proofs.runs.text_len.Goals as goal

pub returns : goal.returns
returns c =
    let s = c.args.text.now in
    let e = position_from_yields_List (λ b. not (plain c.args.end b)) _ _ c.position.result c.position.ensures.ran (YieldsList-from_slice s cc) (λ x b q k. search (rules, tests)) in
    rw c.unwrap_or.ensures (leading_position (plain c.args.end) s c.position.result e)
