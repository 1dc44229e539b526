use Rattle.std.proofs.Common.{sym, ◌∙◌}
use Rattle.name_order.proofs.OrderLaws.{order_cmp, eight_differ, eight_same}
use Rattle.name_order.proofs.compare.Goals as goal

pub returns-then-is_ne : goal.returns-then-is_ne
returns-then-is_ne c =
    let i = c.in-Some-Some in
    eight_differ _ _ _ _ _ _ i.ensures.cases i.ensures'.cases c.high_first.ensures.1 c.high_first-in-Some-Some.ensures.1 c.cmp-found.result (cc) (cc) ∙ sym c.loop-x.invariant

pub loop-x-preserved : goal.loop-x-preserved
loop-x-preserved c =
    let i = c.in-Some-Some in
    c.loop-x.invariant ∙ eight_same _ _ _ _ _ _ i.ensures.cases i.ensures'.cases c.high_first.ensures.1 c.high_first-in-Some-Some.ensures.1 c.cmp-found.result (cc) (cc)

pub returns : goal.returns
returns c = c.cmp.ensures ∙ order_cmp _ _ ∙ sym c.loop-x.invariant
