use Rattle.std.proofs.Common.{sym, ◌∙◌}
use Rattle.macros.proofs.NamesLaws.{behind_end}
use Rattle.macros.proofs.WalkLaws.{list_on, behind_on, end_within}
use Rattle.macros.proofs.Names.behind.Goals as goal

pub loop-rest-preserved : goal.loop-rest-preserved
loop-rest-preserved c =
    let b = c.args.self.now.list.now in
    let i = c.loop-rest.invariant in
    let s = c.loop-rest.rest-iterator in
    let h = c.in-Some.ensures.steps in
    let on = behind_on b s _ c.next.new.self i.list h.1 in
    let within = end_within b s _ c.next.new.self i.list h.1 in
    record { list = list_on b s _ c.next.new.self i.list h.1; here = cc; within = rw (h.0) within; left = cc }

pub returns : goal.returns
returns c =
    let b = c.args.self.now.list.now in
    let i = c.loop-rest.invariant in
    (sym (i.left ∙ behind_end b c.loop-rest.rest-iterator.count c.loop-rest.end c.in-None.ensures.steps.0), i.within)
