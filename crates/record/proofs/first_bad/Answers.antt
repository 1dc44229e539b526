use Rattle.std.proofs.Common.{◌∙◌, sym, ap, arith}
use Rattle.record.specs.Records.{first_bad}
use Rattle.record.proofs.RecordsLaws.{first_hit, first_pass}
use Rattle.record.proofs.WalkLaws.{turn}
use Rattle.record.proofs.first_bad.Goals as goal

pub keeps-requires : goal.keeps-requires
keeps-requires g c =
    let t = turn c.args.list.now _ _ _ (cc) c.loop-at.yielded_by c.in-Some.ensures.steps in
    omega arith

pub returns-then-not-keeps : goal.returns-then-not-keeps
returns-then-not-keeps g c =
    sym (c.loop-at.invariant ∙ ap (first_bad _) c.in-Some.ensures.steps ∙ first_hit _ _ _ (sym c.keeps.ensures ∙ c.if-not-keeps.true))

pub loop-at-preserved : goal.loop-at-preserved
loop-at-preserved g c =
    c.loop-at.invariant ∙ ap (first_bad _) c.in-Some.ensures.steps ∙ first_pass _ _ _ (sym c.keeps.ensures ∙ c.if-not-keeps.false)

pub returns : goal.returns
unfolding first_bad
returns g c = sym (c.loop-at.invariant ∙ ap (first_bad _) c.in-None.ensures.steps.0)
