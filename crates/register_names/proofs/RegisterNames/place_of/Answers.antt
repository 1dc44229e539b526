use Rattle.std.proofs.Common.{refl, arith, rules}
use Rattle.std.proofs.lemmas.Iterator.{YieldsList-from_range}
use Rattle.std.proofs.lemmas.Iterator.Search.{position_from_yields_List}
use Rattle.register_names.proofs.RegisterNamesLaws.{has_key, place_cases, place_longer}
use Rattle.register_names.proofs.RegisterNames.place_of.Goals as goal

pub returns-then-name-gt-WIDTH : goal.returns-then-name-gt-WIDTH
returns-then-name-gt-WIDTH c = omega (arith, place_longer _ c.if-name-gt-WIDTH.true)

pub returns : goal.returns
returns c =
    let n = c.args.name.now in
    let found = position_from_yields_List (has_key n) c.position.new.self _ c.position.result c.position.ensures.ran (YieldsList-from_range {s = record { start = 0; end = 96 }} 0 96 96 refl refl) (λ x b q h. (search rules, search (rules, c.key_of-key.ensures))) in
    place_cases n (record { short = c.if-name-gt-WIDTH.false; word = c.requires }) c.position.result found
