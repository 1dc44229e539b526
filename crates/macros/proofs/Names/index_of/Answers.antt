use Rattle.std.specs.Prelude.{Some, None, cond}
use Rattle.std.proofs.Common.{◌<◌, ◌^◌, inl, ℕ, List, length, arith, ltb, ap₂, ◌∙◌, rules, tests}
use Rattle.std.proofs.lemmas.Iterator.Search.{position_from_yields_List}
use Rattle.record.specs.Bytes.{same_bytes}
use Rattle.macros.proofs.NamesLaws.{found_below, index_place, names_length, names_few}
use Rattle.macros.proofs.WalkLaws.{names_of, gives_names}
use Rattle.macros.proofs.Names.index_of.Goals as goal

pub returns : goal.returns
returns c =
    let s = c.args.self.now in
    let name = c.args.name.now in
    let first = position_from_yields_List (λ (m : List ℕ). same_bytes m name) _ _ c.position.result c.position.ensures.ran (gives_names s) (λ x b q k. search (rules, tests)) in
    found_below c.position.result _ _
    (first ∙ ap₂ (λ (i n : ℕ). cond (ltb i n) (Some i) None) (index_place name (names_of s)) (names_length s.list.now s.count s.at))

pub position-requires-clause-fits : goal.position-requires-clause-fits
position-requires-clause-fits c =
    let s = c.args.self.now in
    let long : length s.list.now < 2 ^ 64 = search rules in
    inl (omega (arith, long, names_few s.list.now s.count s.at s.ok))
