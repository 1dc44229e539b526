use Rattle.std.proofs.Common.{◌≡◌, ◌∙◌, sym}
use Rattle.names.specs.Owners.{for_all}
use Rattle.name_index.specs.Index.{told}
use Rattle.labels.proofs.LookupLaws.{for_all_past, for_all_here, for_all_searched}
use Rattle.labels.proofs.LabelTable.look_for_all.Goals as goal
use Rattle.labels.proofs.LabelTable.look_for_all.Goals.{After-is_owned}

pub returns-then-end-order : goal.returns-then-end-order
returns-then-end-order c =
    rw (← c.self.view_is) (c.find_from.ensures ∙ for_all_past _ _ c.args.end _ c.args.before (rw c.order-order.ensures.value at c.if-end-order.true))

-- The label at which the first search ended, and whether its name is the same.
told_of : (c : After-is_owned)
    → record { same = c.is_owned.result; compared = c.is_owned.new.compared } ≡ told 4 c.self.inside.index.list for_all c.args.name.now c.record-label.result.at c.args.before
told_of c = sym (rw c.record-label.ensures.value.0 at c.is_owned.ensures)

pub returns-then-is_owned : goal.returns-then-is_owned
returns-then-is_owned c =
    let a = (goal.at.returns-then-is_owned c).After-is_owned in
    rw (← c.self.view_is)
    (for_all_here _ _ c.args.end _ c.args.before (rw c.order-order.ensures.value at c.if-end-order.false) _ c.record-label.ensures.value.1 _ (told_of a) c.if-is_owned.true)

pub returns : goal.returns
returns c =
    let a = (goal.at.returns c).After-is_owned in
    rw (← c.self.view_is)
    (c.find_from-2.ensures
    ∙ for_all_searched _ _ c.args.end _ c.args.before (rw c.order-order.ensures.value at c.if-end-order.false) _ c.record-label.ensures.value.1 _ (told_of a) c.if-is_owned.false)
