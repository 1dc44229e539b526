use Rattle.std.proofs.Common.{ℕ, List, sym, ap, ap₂, ◌≡◌, ◌∙◌, arith}
use Rattle.record.proofs.WalkLaws.{turn}
use Rattle.names.specs.Names.{first_where}
use Rattle.names.specs.Owners.{has_owned_name, is_owned}
use Rattle.names.proofs.NamesLaws.{where_hit, where_pass}
use Rattle.names.proofs.Named.find.Goals as goal
use Rattle.names.proofs.Named.find.Goals.{After-is_owned}

pub record-requires : goal.record-requires
record-requires g c =
    let t = turn c.args.self.now _ _ _ (cc) c.loop-at.yielded_by c.in-Some.ensures.steps in
    (omega arith, (omega arith, t.passes (has_owned_name g.row.SKIP c.args.self.now) (rw c.self.view_is at c.self.invariant)))

-- The test reads the list's record at this place.
tested : (g : _) (c : After-is_owned g) → c.is_owned.result ≡ is_owned g.row.SKIP c.args.self.now c.args.owner c.args.name.now c.in-Some.at
tested g c =
    c.is_owned.ensures
    ∙ ap₂ (λ (s : List ℕ) (at : ℕ). is_owned g.row.SKIP s c.args.owner c.args.name.now at) c.record.ensures.0 c.record.ensures.1

pub returns-then-is_owned : goal.returns-then-is_owned
returns-then-is_owned g c =
    let t = tested g (goal.at.returns-then-is_owned g c).After-is_owned in
    sym (c.loop-at.invariant ∙ ap (first_where _) c.in-Some.ensures.steps ∙ where_hit _ _ _ (sym t ∙ c.if-is_owned.true))

pub loop-at-preserved : goal.loop-at-preserved
loop-at-preserved g c =
    let t = tested g (goal.at.loop-at-preserved g c).After-is_owned in
    c.loop-at.invariant ∙ ap (first_where _) c.in-Some.ensures.steps ∙ where_pass _ _ _ (sym t ∙ c.if-is_owned.false)

pub returns : goal.returns
unfolding first_where
returns g c = sym (c.loop-at.invariant ∙ ap (first_where _) c.in-None.ensures.steps.0)
