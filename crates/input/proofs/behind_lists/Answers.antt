use Rattle.std.proofs.Common.{ℕ, ◌≡◌, refl, ap, ◌∙◌, arith}
use Rattle.input.specs.Input.{behind_lists}
use Rattle.input.proofs.InputLaws.{behind_next}
use Rattle.input.proofs.behind_lists.Goals as goal

pub loop-init : goal.loop-init
unfolding behind_lists
loop-init c = refl

pub loop-preserved : goal.loop-preserved
loop-preserved c =
    let l = c.loop in
    behind_next c.args.input.now l.rest.now l.counter c.list_end.result l.invariant c.list_end.ensures

pub returns : goal.returns
returns c =
    let n : c.loop.counter ≡ c.args.count = omega arith in
    c.loop.invariant ∙ ap (λ (k : ℕ). behind_lists k c.args.input.now) n
