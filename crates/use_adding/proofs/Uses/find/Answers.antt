use Rattle.std.proofs.Common.{List, ℕ, length, sym, subst, arith}
use Rattle.label_uses.specs.Uses.{Use}
use Rattle.use_adding.specs.Adding.{IndexIn, UseAt}
use Rattle.use_adding.proofs.AddingLaws.{Reached, reached_start, reached_same, reached_less, reached_next, reached_end, met_at}
use Rattle.use_adding.proofs.Uses.find.Goals as goal
use Rattle.use_adding.proofs.Uses.find.Goals.{After-self}

-- The index that the caller sees is this slice.
seen : (c : After-self) (us : List Use) → IndexIn c.args.self.now (length c.args.self.now) us → IndexIn c.self.inside.bytes.now (length c.self.inside.bytes.now) us
seen c us i = subst (λ (s : List ℕ). IndexIn s (length s) us) (sym c.self.view_is) i

pub loop-at-init : goal.loop-at-init
loop-at-init c us i = reached_start us _

pub order_at-requires : goal.order_at-requires
order_at-requires c =
    let s = c.self.inside.bytes.now in
    let x = c.self.invariant in
    met_at s (length s) x.us c.args.key.now c.loop-at.at x.index_in (c.loop-at.invariant x.us x.index_in) c.loop-at-test.true

pub returns-in-Less : goal.returns-in-Less
returns-in-Less c us v =
    let s = c.self.inside.bytes.now in
    let i = seen (goal.at.returns-in-Less c).After-self us v in
    reached_less s (length s) us c.args.key.now c.loop-at.at i (c.loop-at.invariant us i) c.loop-at-test.true (sym c.in-Less.ensures)

pub returns-in-Equal : goal.returns-in-Equal
returns-in-Equal c us v =
    let s = c.self.inside.bytes.now in
    let i = seen (goal.at.returns-in-Equal c).After-self us v in
    reached_same s (length s) us c.args.key.now c.loop-at.at i (c.loop-at.invariant us i) c.loop-at-test.true (sym c.in-Equal.ensures)

pub next-at-requires : goal.next-at-requires
next-at-requires c =
    let s = c.self.inside.bytes.now in
    let x = c.self.invariant in
    let u : UseAt s c.loop-at.at = met_at s (length s) x.us c.args.key.now c.loop-at.at x.index_in (c.loop-at.invariant x.us x.index_in) c.loop-at-test.true in
    omega (arith, u.room, u.within)

pub loop-at-preserved : goal.loop-at-preserved
loop-at-preserved c us i =
    let s = c.self.inside.bytes.now in
    subst (Reached us c.args.key.now) (sym c.next-at.ensures.0)
    (reached_next s (length s) us c.args.key.now c.loop-at.at i (c.loop-at.invariant us i) c.loop-at-test.true (sym c.in-Greater.ensures))

pub returns : goal.returns
returns c us v =
    let s = c.self.inside.bytes.now in
    let i = seen (goal.at.returns c).After-self us v in
    reached_end s (length s) us c.args.key.now c.loop-at.at i (c.loop-at.invariant us i) c.loop-at-test.false
