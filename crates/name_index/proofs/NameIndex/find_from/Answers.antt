use Rattle.std.specs.Prelude.{Some}
use Rattle.std.proofs.Common.{ℕ, ◌≡◌, get_or, length, sym, ap, ap₂, ◌∙◌, arith}
use Rattle.name_index.specs.Index.{middle, standing}
use Rattle.name_index.specs.Ordered.{Ordered}
use Rattle.name_index.proofs.SearchLaws.{lookup_from_lem, search_end, search_up, search_hit, search_down}
use Rattle.name_index.proofs.NameIndex.find_from.Goals as goal
use Rattle.name_index.proofs.NameIndex.find_from.Goals.{After-stands}
use Rattle.std.specs.declared.cmp.Ordering.{Ordering}

pub loop-lo-init : goal.loop-lo-init
loop-lo-init g c =
    let e = ap (λ (v : Ordered). length v.order) c.self.view_is in
    record { within = omega (arith, e); count = omega (arith, e); rest = rw e (lookup_from_lem _ _ _ _ _ _) }

-- How the middle record compares to what is sought.
stood : (g : _) (c : After-stands g) (o : Ordering) → c.stands.result ≡ o
    → standing g.row.SKIP c.args.self.now.list c.args.owner c.args.name.now (get_or c.args.self.now.order (middle c.loop-lo.lo c.loop-lo.hi) 0) ≡ o
stood g c o e = sym (rw (c.record-named.ensures.value.0, c.record-named.ensures.value.1) at c.stands.ensures.0) ∙ e

pub loop-lo-preserved-in-Less : goal.loop-lo-preserved-in-Less
loop-lo-preserved-in-Less g c =
    let n = c.stands.ensures.1 in
    record {
      within = c.loop-lo.invariant.within;
      count = omega arith;
      rest =
          rw n
          (c.loop-lo.invariant.rest
          ∙ search_up _ c.args.self.now.order c.loop-lo.lo c.loop-lo.hi c.loop-lo.compared c.loop-lo-test.true (stood g (goal.at.loop-lo-preserved-in-Less g c).After-stands _ c.in-Less.is));
    }

pub returns-in-Equal : goal.returns-in-Equal
returns-in-Equal g c =
    ap₂ (λ (p n : ℕ). record { named = Some p; compared = n; end = middle c.loop-lo.lo c.loop-lo.hi }) c.record-named.ensures.value.1 c.stands.ensures.1
    ∙ sym
    (c.loop-lo.invariant.rest
    ∙ search_hit _ c.args.self.now.order c.loop-lo.lo c.loop-lo.hi c.loop-lo.compared c.loop-lo-test.true (stood g (goal.at.returns-in-Equal g c).After-stands _ c.in-Equal.is))

pub loop-lo-preserved : goal.loop-lo-preserved
loop-lo-preserved g c =
    let n = c.stands.ensures.1 in
    record {
      within = omega arith;
      count = omega arith;
      rest =
          rw n
          (c.loop-lo.invariant.rest
          ∙ search_down _ c.args.self.now.order c.loop-lo.lo c.loop-lo.hi c.loop-lo.compared c.loop-lo-test.true (stood g (goal.at.loop-lo-preserved g c).After-stands _ c.in-Greater.is));
    }

pub returns : goal.returns
returns g c = sym (c.loop-lo.invariant.rest ∙ search_end _ _ c.loop-lo.lo c.loop-lo.hi c.loop-lo.compared c.loop-lo-test.false)
