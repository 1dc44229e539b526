use Rattle.std.proofs.Common.{◌≡◌, ℕ, get_or, ap, ◌∙◌, arith}
use Rattle.machine.specs.declared.Effect.{Effect}
use Rattle.machine.specs.declared.Effect.TheVariants.{SetRt, SetRd, Go, Overflows, Unknown}
use Rattle.machine.specs.declared.Reason.TheVariants.{Pc, Word, Overflow}
use Rattle.machine.specs.Instructions.{rt, rd}
use Rattle.machine.specs.Step.{apply}
use Rattle.dry_run_outcome.specs.Run.{step}
use Rattle.dry_run_core.proofs.StepsLaws.{here_start, here_end, here_goes, here_stops, step_none, step_word_lem, step_sets}
use Rattle.dry_run_core.proofs.steps.run.Goals as goal
use Rattle.dry_run_core.proofs.steps.run.Goals.{After-effect, in-SetRt, in-SetRd, in-Go}

-- The effect that the code computes is what the step does.
told : (c : After-effect) (e : Effect) → c.effect.result ≡ e → step c.args.image.now c.loop-steps.m ≡ apply e c.in-Some.word c.loop-steps.m
told c e k =
    let m = c.loop-steps.m in
    step_word_lem c.args.image.now m c.fetch.result c.in-Some.word _ _ c.effect.result c.loop-steps.invariant.zero_held c.fetch.ensures c.in-Some.is
    (ap (λ (r : ℕ). get_or m.registers r 0) c.rs-i.ensures.0)
    (ap (λ (r : ℕ). get_or m.registers r 0) c.rt-j.ensures.0)
    c.effect.ensures
    ∙ ap (λ (x : Effect). apply x c.in-Some.word m) k

pub loop-steps-init : goal.loop-steps-init
loop-steps-init c = here_start _ _ _ c.requires

pub returns-in_default : goal.returns-in_default
returns-in_default c =
    c.ran.ensures
    ∙ here_stops _ _ _ _ _ c.loop-steps.invariant c.loop-steps-test.true Pc
    (step_none c.args.image.now c.loop-steps.m c.fetch.result c.fetch.ensures c.in_default.is)

pub loop-steps-preserved : goal.loop-steps-preserved
loop-steps-preserved c =
    let i = c.loop-steps.invariant in
    let effect = (goal.at.loop-steps-preserved c).After-effect in
    elim c.match-effect.branch [
      | in-SetRt w ↦ rw (w.m-is)
          (here_goes _ _ _ _ _ i c.loop-steps-test.true _
          (step_sets c.args.image.now c.loop-steps.m (rt c.in-Some.word) _ w.in-SetRt.value _ i.zero_held c.rt-j.ensures.0 w.next_pc.ensures
          (told effect (SetRt w.in-SetRt.value) w.in-SetRt.is)))
      | in-SetRd w ↦ rw (w.m-is)
          (here_goes _ _ _ _ _ i c.loop-steps-test.true _
          (step_sets c.args.image.now c.loop-steps.m (rd c.in-Some.word) _ w.in-SetRd.value _ i.zero_held w.rd-k.ensures.0 w.next_pc-in-SetRd.ensures
          (told effect (SetRd w.in-SetRd.value) w.in-SetRd.is)))
      | in-Go w ↦ rw (w.m-is) (here_goes _ _ _ _ _ i c.loop-steps-test.true _ (told effect (Go w.in-Go.target) w.in-Go.is))
    ]

pub returns-in-Overflows : goal.returns-in-Overflows
returns-in-Overflows c =
    c.ran-in-Overflows.ensures
    ∙ here_stops _ _ _ _ _ c.loop-steps.invariant c.loop-steps-test.true Overflow (told (goal.at.returns-in-Overflows c).After-effect Overflows c.in-Overflows.is)

pub returns-in-Unknown : goal.returns-in-Unknown
returns-in-Unknown c =
    c.ran-in-Unknown.ensures
    ∙ here_stops _ _ _ _ _ c.loop-steps.invariant c.loop-steps-test.true Word (told (goal.at.returns-in-Unknown c).After-effect Unknown c.in-Unknown.is)

pub returns : goal.returns
returns c =
    let n : c.loop-steps.steps ≡ c.args.allowance = omega (arith, c.loop-steps.invariant.within) in
    c.ran-2.ensures ∙ rw n at (here_end _ _ _ _ _ c.loop-steps.invariant c.loop-steps-test.false)
