use Rattle.std.proofs.Common.{ℕ, List, map, sym, ap, ap₂, ltb, ◌∙◌, ne_eqb, not}
use Rattle.macros.specs.Macros.{name_at, name_places, index_of}
use Rattle.macros.proofs.NamesLaws.{some_below, names_length}
use Rattle.macros.proofs.KnownLaws.{other_known, parameter_known, text_part}
use Rattle.macros.proofs.Names.knows.Goals as goal

pub returns-then-half_at-ne-PARAMETER : goal.returns-then-half_at-ne-PARAMETER
returns-then-half_at-ne-PARAMETER c =
    let a = c.args in
    ap not (ne_eqb c.half_at.result 2 c.if-half_at-ne-PARAMETER.true)
    ∙ sym (other_known (map (name_at a.self.now.list.now) (name_places a.self.now.count a.self.now.list.now a.self.now.at)) a.body.now a.at c.requires (λ e. c.if-half_at-ne-PARAMETER.true (c.half_at.ensures.0 ∙ e)))

pub returns-else-half_at-ne-PARAMETER : goal.returns-else-half_at-ne-PARAMETER
returns-else-half_at-ne-PARAMETER c =
    let a = c.args in
    let ps = map (name_at a.self.now.list.now) (name_places a.self.now.count a.self.now.list.now a.self.now.at) in
    let i = ap (λ (x : List ℕ). index_of x ps) (text_part a.body.now a.at c.next.result c.next.ensures.0) in
    c.is_some.ensures ∙ some_below c.index_of.result _ _ c.index_of.ensures
    ∙ ap₂ ltb i (sym (names_length a.self.now.list.now a.self.now.count a.self.now.at))
    ∙ sym (parameter_known ps a.body.now a.at c.requires (sym c.half_at.ensures.0 ∙ c.if-half_at-ne-PARAMETER.false))
