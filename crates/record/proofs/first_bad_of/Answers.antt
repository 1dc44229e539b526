use Rattle.std.proofs.Common.{ℕ, ◌-◌, ◌≡◌, sym, ap, ◌∙◌, arith}
use Rattle.std.specs.declared.iter.Enumerate.{Enumerate}
use Rattle.record.specs.declared.Iter.{Iter}
use Rattle.record.specs.Records.{places, first_bad_of}
use Rattle.record.specs.Left.{places_left}
use Rattle.record.proofs.RecordsLaws.{of_most, of_hit, of_pass}
use Rattle.record.proofs.WalkLaws.{numbered_turn}
use Rattle.record.proofs.first_bad_of.Goals as goal
use Rattle.record.proofs.first_bad_of.Goals.{then-n-most-via-then-n-most, then-n-most-via-else-n-most+then-not-keeps}

pub loop-n-init : goal.loop-n-init
loop-n-init g c =
    let ok = g.L.Layout.keeps c.args.layout.now c.args.list.now in
    let it = c.into_iter-n-iterator.result in
    let same = c.into_iter-n-iterator.ensures.into_iter_gives in
    let none : it.count ≡ 0 = ap (λ (i : Enumerate Iter). i.count) same ∙ c.enumerate-n-items.ensures.count in
    let all : places_left it.iter ≡ places c.args.list.now =
    ap (λ (i : Enumerate Iter). places_left i.iter) same ∙ ap places_left c.enumerate-n-items.ensures.source ∙ c.places.ensures.value in
    let most : c.args.most ≡ c.args.most - it.count = omega arith in
    record {
      few = omega arith;
      rest = ap (first_bad_of c.args.most ok) (sym all) ∙ ap (λ (n : ℕ). first_bad_of n ok (places_left it.iter)) most;
    }

pub keeps-requires : goal.keeps-requires
keeps-requires g c =
    let t = numbered_turn c.args.list.now _ _ _ (cc) (cc) c.loop-n.yielded_by c.in-Some.ensures.steps.0 c.in-Some.ensures.steps.1 in
    omega arith

pub returns-then-n-most : goal.returns-then-n-most
returns-then-n-most g c =
    let s = c.in-Some.ensures.steps in
    sym (c.loop-n.invariant.rest ∙ ap (first_bad_of _ _) s.0
    ∙ elim c.then-n-most.branch [
      | then-n-most-via-then-n-most w ↦ of_most _ _ _ _ (omega (arith, s.1))
      | then-n-most-via-else-n-most+then-not-keeps w ↦ of_hit _ _ _ _ (sym w.if-not-keeps.ensures)
    ])

pub loop-n-preserved : goal.loop-n-preserved
loop-n-preserved g c =
    let s = c.in-Some.ensures.steps in
    record {
      few = omega (arith, s.1, s.2);
      rest = c.loop-n.invariant.rest ∙ ap (first_bad_of _ _) s.0 ∙ of_pass _ _ _ _ _ (omega (arith, s.1, s.2)) (sym c.if-not-keeps.ensures);
    }

pub returns : goal.returns
unfolding first_bad_of
returns g c = sym (c.loop-n.invariant.rest ∙ ap (first_bad_of _ _) c.in-None.ensures.steps.0.0)
