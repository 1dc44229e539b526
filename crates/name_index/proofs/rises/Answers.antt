use Rattle.std.proofs.Common.{ℕ, List, Bool, ◌∷◌, ◌&&◌, ◌≡◌, sym, ap, ◌∙◌, arith}
use Rattle.record.specs.declared.Iter.{Iter}
use Rattle.record.specs.Records.{first_bad}
use Rattle.record.specs.Left.{places_left}
use Rattle.record.proofs.RecordsLaws.{first_good}
use Rattle.names.specs.Owners.{has_owned_name}
use Rattle.name_sort.specs.Sorting.{in_order}
use Rattle.name_index.specs.Index.{below}
use Rattle.name_index.proofs.rises.Goals as goal
use Rattle.name_index.proofs.rises.Goals.{After-is_below}

-- Takes one more record.
turn : (le : ℕ → ℕ → Bool) (last at : ℕ) (l ps : List ℕ) (b : Bool) → l ≡ at ∷ ps → b ≡ le last at → in_order le (last ∷ l) ≡ (b && in_order le (at ∷ ps))
unfolding in_order
turn le last at l ps b e f = ap (λ (l : List ℕ). in_order le (last ∷ l)) e ∙ ap (λ (b : Bool). b && in_order le (at ∷ ps)) (sym f)

pub returns-in_default : goal.returns-in_default
unfolding in_order
returns-in_default g c =
    let le = below g.row.SKIP c.args.list.now in
    sym (ap (in_order le) (rw c.bytes.ensures.value at (sym c.places-places.ensures.value) ∙ c.in_default.ensures.steps.0))

pub loop-at-init : goal.loop-at-init
loop-at-init g c =
    let s = c.args.list.now in
    let ok = has_owned_name g.row.SKIP s in
    let e =
    rw c.bytes.ensures.value at (sym c.places-places.ensures.value) ∙ c.in-Some.ensures.steps
    ∙ ap (λ (i : Iter). c.in-Some.last ∷ places_left i) (sym c.into_iter-at-iterator.ensures.into_iter_gives) in
    let n = first_good ok _ _ (ap (first_bad ok) (sym e) ∙ c.bytes.ensures.named) in
    record { last_named = n.0; named = n.1; rest = ap (in_order (below g.row.SKIP s)) e }

pub record-requires : goal.record-requires
record-requires g c = (omega arith, (omega arith, c.loop-at.invariant.last_named))

pub record-requires-in-loop-at : goal.record-requires-in-loop-at
record-requires-in-loop-at g c =
    let ok = has_owned_name g.row.SKIP c.args.list.now in
    let n = first_good ok _ _ (ap (first_bad ok) (sym c.in-Some-at.ensures.steps) ∙ c.loop-at.invariant.named) in
    (omega arith, (omega arith, n.0))

-- The test compares the records at `last` and `at`.
told : (g : _) (c : After-is_below g) → c.is_below.result ≡ below g.row.SKIP c.args.list.now c.loop-at.last c.in-Some-at.at
told g c = rw (c.record.ensures.0, c.record.ensures.1, c.record-in-loop-at.ensures.1) at c.is_below.ensures

pub returns-then-not-is_below : goal.returns-then-not-is_below
returns-then-not-is_below g c =
    let t = sym c.if-not-is_below.true ∙ told g (goal.at.returns-then-not-is_below g c).After-is_below in
    sym (c.loop-at.invariant.rest ∙ turn _ _ _ _ _ _ c.in-Some-at.ensures.steps t)

pub loop-at-preserved : goal.loop-at-preserved
loop-at-preserved g c =
    let ok = has_owned_name g.row.SKIP c.args.list.now in
    let n = first_good ok _ _ (ap (first_bad ok) (sym c.in-Some-at.ensures.steps) ∙ c.loop-at.invariant.named) in
    let t = sym c.if-not-is_below.false ∙ told g (goal.at.loop-at-preserved g c).After-is_below in
    record {
      last_named = n.0;
      named = n.1;
      rest = c.loop-at.invariant.rest ∙ turn _ _ _ _ _ _ c.in-Some-at.ensures.steps t;
    }

pub returns : goal.returns
unfolding in_order
returns g c =
    let le = below g.row.SKIP c.args.list.now in
    sym (c.loop-at.invariant.rest ∙ ap (λ (l : List ℕ). in_order le (c.loop-at.last ∷ l)) c.in-None.ensures.steps.0)
