use Rattle.std.proofs.Common.{◌≡◌, subst}
use Rattle.label_uses.specs.Uses.{key_for}
use Rattle.index_check.specs.Checks.{ListsIn, Tells}
use Rattle.index_check.proofs.RecordLaws.{key_tells}
use Rattle.index_check.proofs.Lists.still_stands.Goals as goal

pub returns-else-eq : goal.returns-else-eq
returns-else-eq c =
    let key = c.args.key.now in
    subst (λ (v : ListsIn). Tells c.stands.result (key_for v.labels c.args.source key.name ≡ key)) c.self.view_is
    (key_tells key (key_for c.self.inside.labels c.args.source key.name) c.stands.result c.stands.ensures)
