use Rattle.std.proofs.Common.{◌≡◌, sym, ap, ◌∙◌}
use Rattle.std.specs.Ordering.{is_eq}
use Rattle.name_order.specs.Order.{order}
use Rattle.address_label.specs.LabelBytes.{name_bytes}
use Rattle.label_uses.specs.Uses.{use_order, key_for}
use Rattle.line_uses.specs.Line.{LineIn}
use Rattle.line_uses.proofs.KeyLaws.{has_unlike, has_alike, is_same_order}
use Rattle.line_uses.proofs.Line.label_has.Goals as goal
use Rattle.line_uses.proofs.Line.label_has.Goals.{After-is_eq}

name_is : (c : After-is_eq) → c.name_of-other.result.now ≡ name_bytes c.args.self.now.names c.args.label
name_is c =
    c.name_of-other.ensures ∙ ap (name_bytes c.self.inside.tokens.now) (sym c.in-Label.is) ∙ ap (λ (v : LineIn). name_bytes v.names c.args.label) c.self.view_is

met : (c : After-is_eq) → order c.args.key.now.name c.name_of-other.result.now ≡ c.compare.result
met c = sym (c.compare.ensures ∙ ap (λ n. order n c.name_of-other.result.now) c.name.ensures)

pub returns-then-is_eq : goal.returns-then-is_eq
returns-then-is_eq c =
    let a = c.args in
    let l = c.in-Label in
    let k = (goal.at.returns-then-is_eq c).After-is_eq in
    c.stands.ensures ∙ ap (λ (v : LineIn). is_eq (use_order a.key.now (key_for v.labels l.l.location.source a.key.now.name))) c.self.view_is
    ∙ has_alike a.self.now.labels a.self.now.names a.label l.l l.is c.name_of-other.result.now (name_is k) a.key.now (met k ∙ is_same_order c.compare.result (sym c.is_eq.ensures ∙ c.if-is_eq.true))

pub returns-else-is_eq : goal.returns-else-is_eq
returns-else-is_eq c =
    let a = c.args in
    let l = c.in-Label in
    let k = (goal.at.returns-else-is_eq c).After-is_eq in
    c.if-is_eq.false ∙ has_unlike a.self.now.labels a.self.now.names a.label l.l l.is c.name_of-other.result.now (name_is k) a.key.now c.compare.result (met k) (sym c.is_eq.ensures ∙ c.if-is_eq.false)
